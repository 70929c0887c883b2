use Rattle.std.proofs.Common.{ltb, take, sym, ap, ◌∙◌, rules, arith}
use borrow.Author.Tests.{tests}
use Rattle.std.proofs.lemmas.Bool.{ltb-true, ltb-false}
use Rattle.std.proofs.lemmas.List.{get_or-take, length-take-le}
use Rattle.std.proofs.lemmas.List.Sorted.{IsPartitionPoint-from_clause}
use Rattle.dispatch.proofs.Keys.{in_front}
use Rattle.dispatch.proofs.jobs.Jobs.place.Goals as goal

pub returns-clause-later : goal.returns-clause-later
returns-clause-later c p h =
    let jobs = c.args.self.now in
    let parts = IsPartitionPoint-from_clause (λ x. ltb c.args.key x) (take jobs.count jobs.keys) _ c.partition_point.ensures.partitioned (in_front jobs.keys jobs.count c.args.key jobs.sorted) (λ a r q k. search (rules, tests)) in
    ltb-true c.args.key _ (ap (ltb c.args.key) (sym (get_or-take jobs.count jobs.keys p 0 (omega arith))) ∙ parts.0 p 0 (omega arith) h)

pub returns-clause-sooner : goal.returns-clause-sooner
returns-clause-sooner c p h =
    let jobs = c.args.self.now in
    let parts = IsPartitionPoint-from_clause (λ x. ltb c.args.key x) (take jobs.count jobs.keys) _ c.partition_point.ensures.partitioned (in_front jobs.keys jobs.count c.args.key jobs.sorted) (λ a r q k. search (rules, tests)) in
    let long = length-take-le jobs.count jobs.keys (omega (arith, jobs.sorted.few, jobs.sorted.room)) in
    ltb-false c.args.key _ (ap (ltb c.args.key) (sym (get_or-take jobs.count jobs.keys p 0 h.1)) ∙ parts.1 p 0 h.0 (omega (arith, h.1, long)))
