use Rattle.std.proofs.Common.{ap}
use Rattle.dispatch.specs.Rows.{slots}
use Rattle.dispatch.proofs.Loads.{loaded_stays}
use Rattle.dispatch.proofs.held.HeldTasks.run.Goals as goal

pub invariant_of-self : goal.invariant_of-self
invariant_of-self c =
    let old = c.args.self.now in
    let slot = slots old.table.rows in
    record { full = old.full; loaded = (λ k. loaded_stays slot _ (λ i. ((slot i).latest, _, ap (λ f. f i) c.run.ensures.rows)) k old.loads (old.loaded k)) }
