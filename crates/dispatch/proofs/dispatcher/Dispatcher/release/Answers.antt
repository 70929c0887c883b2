use Rattle.std.proofs.Common.{◌≡◌, false, ◌&&◌, leb, Err, sym, refl, ap, ◌∙◌, rules}
use Rattle.std.proofs.lemmas.Bool.{true≢false, and_from, and_left, and_right, le-leb, lt-leb}
use Rattle.schedule.specs.State.{put}
use Rattle.schedule.specs.Calls.{with_rows, ready, released}
use Rattle.dispatch.specs.Dispatcher.{state_of, pass_answer}
use Rattle.dispatch.proofs.Refusals.{release_unheld, release_bad, release_soon, release_passes}
use Rattle.dispatch.proofs.dispatcher.Dispatcher.release.Goals as goal
use Rattle.dispatch.proofs.dispatcher.Dispatcher.release.Goals.{then-run-lt1-via-then-run-lt1, then-run-lt1-via-else-run-lt1+then-held-run}

pub returns-in_err-task : goal.returns-in_err-task
returns-in_err-task g c =
    let s = state_of g.S.Supply.row g.S.Supply.table c.args.self.now in
    let r = c.in_err-task.field-0.0 in
    let is : c.from_residual.result ≡ Err r = search rules in
    let e = release_unheld s c.args.id c.args.run r c.in_err-task.ensures.refused in
    record { answer = ap pass_answer is ∙ e.0; after = e.1; same = λ _. refl }

pub returns-then-run-lt1 : goal.returns-then-run-lt1
returns-then-run-lt1 g c =
    let s = state_of g.S.Supply.row g.S.Supply.table c.args.self.now in
    let few = ap (λ r. leb 1 c.args.run && leb c.args.run r.run) (sym c.in_ok-task.ensures.row) in
    let bad : (leb 1 c.args.run && leb c.args.run c.in_ok-task.held.run) ≡ false = elim c.then-run-lt1.branch [
      | then-run-lt1-via-then-run-lt1 w ↦ and_left _ _ (lt-leb _ _ w.if-run-lt1.true)
      | then-run-lt1-via-else-run-lt1+then-held-run w ↦ and_right _ _ (lt-leb _ _ w.if-held-run.true)
    ] in
    let e = release_bad s c.args.id c.in_ok-task.ensures.refused c.args.run (few ∙ bad) in
    record { answer = e.0; after = e.1; same = λ _. refl }

pub returns-then-not-ready : goal.returns-then-not-ready
returns-then-not-ready g c =
    let s = state_of g.S.Supply.row g.S.Supply.table c.args.self.now in
    let is = sym c.in_ok-task.ensures.row in
    let good = ap (λ r. leb 1 c.args.run && leb c.args.run r.run) is ∙ and_from _ _ (le-leb _ _ c.if-run-lt1.false) (le-leb _ _ c.if-held-run.false) in
    let asked = ap (λ r. ready s.clock r.period r.latest) is in
    let e = release_soon s c.args.id c.in_ok-task.ensures.refused c.args.run good (asked ∙ sym c.if-not-ready.ensures) in
    record { answer = e.0; after = e.1; same = λ _. refl }

pub returns : goal.returns
returns g c =
    let s = state_of g.S.Supply.row g.S.Supply.table c.args.self.now in
    let is = sym c.in_ok-task.ensures.row in
    let good = ap (λ r. leb 1 c.args.run && leb c.args.run r.run) is ∙ and_from _ _ (le-leb _ _ c.if-run-lt1.false) (le-leb _ _ c.if-held-run.false) in
    let asked = ap (λ r. ready s.clock r.period r.latest) is in
    let e = release_passes s c.args.id c.in_ok-task.ensures.refused c.args.run good (asked ∙ sym c.if-not-ready.ensures) in
    let set = c.release.ensures ∙ ap (λ i. put s.slot i (released s.clock c.args.run (s.slot i))) c.in_ok-task.ensures.named in
    record { answer = e.0; after = ap (with_rows s) set ∙ e.1; same = λ h. absurd (true≢false h) }
