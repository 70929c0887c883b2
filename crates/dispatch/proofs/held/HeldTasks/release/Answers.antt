use Rattle.std.proofs.Common.{Some, sym, refl, ap, subst}
use Rattle.schedule.specs.Calls.{released}
use Rattle.schedule.proofs.Rows.{put_elim}
use Rattle.dispatch.specs.Rows.{slots}
use Rattle.dispatch.proofs.Loads.{Rejobbed, loaded_stays}
use Rattle.dispatch.proofs.held.HeldTasks.release.Goals as goal

pub invariant_of-self : goal.invariant_of-self
invariant_of-self c =
    let old = c.args.self.now in
    let slot = slots old.table.rows in
    let jobs = put_elim slot c.args.task.number (released c.args.at c.args.run (slot c.args.task.number)) (λ i r. Rejobbed (slot i) r) (Some c.args.at, c.args.run, refl) (λ i _. ((slot i).latest, (slot i).lacking, refl)) in
    record { full = old.full; loaded = (λ k. loaded_stays slot _ (λ i. subst (Rejobbed (slot i)) (sym (ap (λ f. f i) c.release.ensures)) (jobs i)) k old.loads (old.loaded k)) }
