use Rattle.std.proofs.Common.{◌≡◌, ◌<◌, cond, ◌∙◌, rules, arith}
use Rattle.std.proofs.lemmas.Bool.{cond-true}
use Rattle.schedule.specs.Test.{load}
use Rattle.dispatch.specs.Rows.{slots}
use Rattle.dispatch.proofs.Loads.{filled_by}
use Rattle.dispatch.proofs.held.keeping.loads.Goals as goal

pub returns-clause-loaded : goal.returns-clause-loaded
returns-clause-loaded c = λ k below held.
    let slot = slots c.args.table.now.rows in
    filled_by _ _ (λ i v. i < 32 → v ≡ cond (slot i).held (load slot i) 0) (λ i y q w. search rules) c.from_fn.result 32 0 c.from_fn.ensures.items.each k (omega arith) below 0 below ∙ cond-true _ _ 0 held
