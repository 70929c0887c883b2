use Rattle.std.proofs.Common.{◌≡◌, true, false, rules}
use borrow.Author.Tests.{tests}
use Rattle.std.proofs.lemmas.Iterator.{first_from_Range}
use Rattle.schedule.specs.Test.{unserved}
use Rattle.dispatch.specs.Rows.{slots}
use Rattle.dispatch.proofs.Tests.{task_searched}
use Rattle.dispatch.proofs.test.first_unserved.Goals as goal

pub returns : goal.returns
returns g c =
    let slot = slots c.args.tasks.now.table.rows in
    let table = g.S.Supply.table c.args.supply.now in
    task_searched table slot c.find.result (first_from_Range _ _ _ c.find.result (λ k. unserved table slot k ≡ true) (λ k. unserved table slot k ≡ false) c.find.ensures.ran (λ x q k. search (rules, tests)) (λ x q k. search (rules, tests)))
