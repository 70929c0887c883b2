use Rattle.std.proofs.Common.{sym, ap, ◌∙◌}
use Rattle.std.proofs.lemmas.Bool.{and_from, not_from_false, ne_eqb, cond-true}
use Rattle.task.specs.Task.{task_of}
use Rattle.dispatch.specs.Rows.{slots, row_of}
use Rattle.dispatch.proofs.Tables.{some_by}
use Rattle.dispatch.proofs.Tests.{charge_same}
use Rattle.dispatch.proofs.charges.charge_of.Goals as goal

pub returns-in-Some-clause-value : goal.returns-in-Some-clause-value
returns-in-Some-clause-value c =
    let row = slots c.args.table.now.rows c.args.i in
    let is = some_by row.held _ _ c.in-Some.ensures in
    let apart = not_from_false _ (ne_eqb c.args.i c.args.card.now.id (λ e. c.if-i-id.false (e ∙ sym c.id.ensures))) in
    c.charge.ensures.value ∙ charge_same _ (row_of (task_of c.in-Some.other)) row (ap (λ t. t.run) is.1) (ap (λ t. t.period) is.1) ∙ sym (cond-true _ _ 0 (and_from _ _ is.0 apart))
