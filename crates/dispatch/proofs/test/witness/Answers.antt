use Rattle.std.proofs.Common.{◌+◌, ◌*◌, ◌≤◌, ◌<◌, min, rules, arith}
use borrow.Author.Tests.{tests}
use Rattle.std.proofs.lemmas.Iterator.{first_from_Range}
use Rattle.task.specs.Task.{task_of}
use Rattle.dispatch.specs.Rows.{slots}
use Rattle.dispatch.proofs.Tables.{some_by}
use Rattle.dispatch.proofs.Tests.{level_searched}
use Rattle.dispatch.proofs.test.witness.Goals as goal

pub returns : goal.returns
returns g c =
    let slot = slots c.args.tasks.now.table.rows in
    let table = g.S.Supply.table c.args.supply.now in
    let t = task_of c.in_ok-card.card in
    let w = c.load-load.result in
    let is = some_by (slot c.args.k).held _ _ c.in_ok-card.ensures in
    let found = first_from_Range _ _ _ c.find.result (λ j. j * t.run + w ≤ table (min j 8) (min t.deadline 8192)) (λ j. table (min j 8) (min t.deadline 8192) < j * t.run + w) c.find.ensures.ran (λ x q k. search (rules, tests)) (λ x q k. search (rules, tests)) in
    level_searched table slot c.args.k t w is.1 (omega arith) c.load-load.ensures.value is.0 c.find.result found
