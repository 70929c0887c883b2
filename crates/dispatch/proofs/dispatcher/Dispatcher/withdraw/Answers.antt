use Rattle.std.proofs.Common.{◌≡◌, Err, sym, refl, ap, ◌∙◌, rules}
use Rattle.std.proofs.lemmas.Bool.{true≢false}
use Rattle.schedule.specs.State.{blank, put}
use Rattle.schedule.specs.Calls.{with_rows}
use Rattle.dispatch.specs.Dispatcher.{state_of, pass_answer}
use Rattle.dispatch.proofs.Refusals.{withdraw_unheld, withdraw_busy, withdraw_passes}
use Rattle.dispatch.proofs.dispatcher.Dispatcher.withdraw.Goals as goal

pub returns-in_err-task : goal.returns-in_err-task
returns-in_err-task g c =
    let s = state_of g.S.Supply.row g.S.Supply.table c.args.self.now in
    let r = c.in_err-task.field-0.0 in
    let is : c.from_residual.result ≡ Err r = search rules in
    let e = withdraw_unheld s c.args.id r c.in_err-task.ensures.refused in
    record { answer = ap pass_answer is ∙ e.0; after = e.1; same = λ _. refl }

pub returns-then-not-quiet : goal.returns-then-not-quiet
returns-then-not-quiet g c =
    let s = state_of g.S.Supply.row g.S.Supply.table c.args.self.now in
    let e = withdraw_busy s c.args.id c.in_ok-task.ensures.refused (sym c.quiet.ensures ∙ c.if-not-quiet.true) in
    record { answer = e.0; after = e.1; same = λ _. refl }

pub returns : goal.returns
returns g c =
    let s = state_of g.S.Supply.row g.S.Supply.table c.args.self.now in
    let e = withdraw_passes s c.args.id c.in_ok-task.ensures.refused (sym c.quiet.ensures ∙ c.if-not-quiet.false) in
    record { answer = e.0; after = ap (with_rows s) (c.clear.ensures ∙ ap (λ i. put s.slot i blank) c.in_ok-task.ensures.named) ∙ e.1; same = λ h. absurd (true≢false h) }
