use Rattle.std.proofs.Common.{◌≡◌, Err, ap, ◌∙◌, rules}
use Rattle.schedule.specs.declared.Answer.TheVariants.{Level as LevelIs}
use Rattle.dispatch.specs.Dispatcher.{state_of, level_answer}
use Rattle.dispatch.proofs.Tests.{level_value}
use Rattle.dispatch.proofs.Refusals.{is_held, level_unheld, level_passes}
use Rattle.dispatch.proofs.dispatcher.Dispatcher.level.Goals as goal

pub returns-in_err-held : goal.returns-in_err-held
returns-in_err-held g c =
    let s = state_of g.S.Supply.row g.S.Supply.table c.args.self.now in
    let r = c.in_err-held.field-0.0 in
    let is : c.from_residual.result ≡ Err r = search rules in
    record { answer = ap level_answer is ∙ (level_unheld s c.args.id r c.in_err-held.ensures.refused).0 }

pub returns : goal.returns
returns g c =
    let s = state_of g.S.Supply.row g.S.Supply.table c.args.self.now in
    let known = c.in_ok-held.ensures.refused in
    record { answer = ap LevelIs (c.unwrap_or.ensures ∙ level_value _ _ _ (is_held s c.args.id known) c.witness.ensures) ∙ (level_passes s c.args.id known).0 }
