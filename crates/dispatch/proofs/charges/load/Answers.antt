use Rattle.std.proofs.Common.{rules, ◌∙◌, arith}
use Rattle.std.proofs.lemmas.Iterator.{YieldsList-from_range, YieldsList-from_map}
use Rattle.std.proofs.lemmas.Iterator.Consumers.{sum_from_yields_List, fits_from_yields_list}
use Rattle.task.specs.Task.{task_of}
use Rattle.schedule.specs.Test.{charge, others}
use Rattle.dispatch.specs.Rows.{slots}
use Rattle.dispatch.proofs.Loads.{charges_few, sum_listed}
use Rattle.dispatch.proofs.charges.load.Goals as goal

pub sum-requires-clause-fits : goal.sum-requires-clause-fits
sum-requires-clause-fits c =
    let f = others (slots c.args.table.now.rows) (task_of c.args.card.now).id (charge (task_of c.args.card.now).deadline) in
    let few = charges_few (slots c.args.table.now.rows) c.args.table.now.times (task_of c.args.card.now).id (task_of c.args.card.now).deadline (omega arith) in
    fits_from_yields_list c.map.result _ (YieldsList-from_map _ f (YieldsList-from_range 0 32 32 c.map.ensures.source (omega arith)) c.map.ensures.closure (λ x r q k. search rules)) (omega (arith, sum_listed 32 f, few))

pub returns : goal.returns
returns c =
    let f = others (slots c.args.table.now.rows) (task_of c.args.card.now).id (charge (task_of c.args.card.now).deadline) in
    let few = charges_few (slots c.args.table.now.rows) c.args.table.now.times (task_of c.args.card.now).id (task_of c.args.card.now).deadline (omega arith) in
    let all = sum_from_yields_List c.map.result _ c.sum.ensures.ran (YieldsList-from_map _ f (YieldsList-from_range 0 32 32 c.map.ensures.source (omega arith)) c.map.ensures.closure (λ x r q k. search rules)) ∙ sum_listed 32 f in
    record { value = all; few = omega (arith, all, few) }
