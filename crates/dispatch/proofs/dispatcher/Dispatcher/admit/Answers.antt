use Rattle.std.proofs.Common.{◌≡◌, ◌&&◌, ltb, Err, sym, refl, ap, ◌∙◌, arith, rules}
use Rattle.std.proofs.lemmas.Bool.{true≢false, ltb-true}
use Rattle.task.specs.Task.{task_of, timely}
use Rattle.schedule.specs.declared.Answer.TheVariants.{Level as LevelIs}
use Rattle.schedule.specs.State.{put}
use Rattle.schedule.specs.Test.{first_unserved, witness}
use Rattle.schedule.specs.Calls.{with_rows, admitted}
use Rattle.schedule.proofs.Rows.{put_same}
use Rattle.dispatch.specs.Dispatcher.{state_of, level_answer}
use Rattle.dispatch.specs.Rows.{slots, row_of}
use Rattle.dispatch.proofs.Tests.{level_value, none_unserved}
use Rattle.dispatch.proofs.Tables.{some_by, none_by, ok_by, err_by}
use Rattle.dispatch.proofs.Refusals.{admit_large, admit_bad, admit_taken, admit_fails, admit_passes}
use Rattle.dispatch.proofs.dispatcher.Dispatcher.admit.Goals as goal

pub returns-in_err-ok_or : goal.returns-in_err-ok_or
returns-in_err-ok_or g c =
    let s = state_of g.S.Supply.row g.S.Supply.table c.args.self.now in
    let r = c.in_err-ok_or.field-0.0 in
    let is : c.from_residual.result ≡ Err r = search rules in
    let why = err_by (λ t. t.number) _ _ _ c.new.result r c.new.ensures c.in_err-ok_or.ensures.value in
    let e = admit_large s c.args.id c.args.run c.args.period c.args.deadline why.0 in
    record { answer = ap level_answer (is ∙ ap Err why.1) ∙ e.0; after = e.1; same = λ _. refl }

pub returns-in_err-card : goal.returns-in_err-card
returns-in_err-card g c =
    let s = state_of g.S.Supply.row g.S.Supply.table c.args.self.now in
    let r = c.in_err-card.field-0.0 in
    let is : c.from_residual-in_err-card.result ≡ Err r = search rules in
    let below = (ok_by (λ t. t.number) _ _ _ c.new.result _ c.new.ensures c.in_ok-ok_or.ensures.value).0 in
    let why = err_by task_of (ltb c.args.id 32 && timely c.args.run c.args.period c.args.deadline) _ _ c.new-2.result r c.new-2.ensures c.in_err-card.ensures.value in
    let bad = ap (λ b. b && timely c.args.run c.args.period c.args.deadline) (sym below) ∙ why.0 in
    let e = admit_bad s c.args.id c.args.run c.args.period c.args.deadline below bad in
    record { answer = ap level_answer (is ∙ ap Err why.1) ∙ e.0; after = e.1; same = λ _. refl }

pub returns-then-holds : goal.returns-then-holds
returns-then-holds g c =
    let s = state_of g.S.Supply.row g.S.Supply.table c.args.self.now in
    let below = (ok_by (λ t. t.number) _ _ _ c.new.result _ c.new.ensures c.in_ok-ok_or.ensures.value).0 in
    let made = ok_by task_of (ltb c.args.id 32 && timely c.args.run c.args.period c.args.deadline) _ _ c.new-2.result _ c.new-2.ensures c.in_ok-card.ensures.value in
    let good = ap (λ b. b && timely c.args.run c.args.period c.args.deadline) (sym below) ∙ made.0 in
    let e = admit_taken s c.args.id c.args.run c.args.period c.args.deadline below good (sym c.holds.ensures ∙ c.if-holds.true) in
    record { answer = e.0; after = e.1; same = λ _. refl }

pub returns-in-Some : goal.returns-in-Some
returns-in-Some g c =
    let s = state_of g.S.Supply.row g.S.Supply.table c.args.self.now in
    let below = (ok_by (λ t. t.number) _ _ _ c.new.result _ c.new.ensures c.in_ok-ok_or.ensures.value).0 in
    let made = ok_by task_of (ltb c.args.id 32 && timely c.args.run c.args.period c.args.deadline) _ _ c.new-2.result _ c.new-2.ensures c.in_ok-card.ensures.value in
    let good = ap (λ b. b && timely c.args.run c.args.period c.args.deadline) (sym below) ∙ made.0 in
    let new = c.with-tasks.ensures ∙ ap (λ t. put s.slot t.id (row_of t)) made.1 in
    let table = g.S.Supply.table c.args.self.now.supply in
    let found = some_by _ _ _ c.in-Some.ensures in
    let first = ap (first_unserved table) (sym new) ∙ sym found.1 in
    let e = admit_fails s c.args.id c.args.run c.args.period c.args.deadline below good (sym c.holds.ensures ∙ c.if-holds.false) c.in-Some.k (omega (arith, ltb-true _ 32 found.0, found.1)) first in
    record { answer = e.0; after = e.1; same = λ _. refl }

pub returns : goal.returns
returns g c =
    let s = state_of g.S.Supply.row g.S.Supply.table c.args.self.now in
    let below = (ok_by (λ t. t.number) _ _ _ c.new.result _ c.new.ensures c.in_ok-ok_or.ensures.value).0 in
    let made = ok_by task_of (ltb c.args.id 32 && timely c.args.run c.args.period c.args.deadline) _ _ c.new-2.result _ c.new-2.ensures c.in_ok-card.ensures.value in
    let good = ap (λ b. b && timely c.args.run c.args.period c.args.deadline) (sym below) ∙ made.0 in
    let new = c.with-tasks.ensures ∙ ap (λ t. put s.slot t.id (row_of t)) made.1 in
    let table = g.S.Supply.table c.args.self.now.supply in
    let none = none_by _ _ c.in_default.ensures in
    let e = admit_passes s c.args.id c.args.run c.args.period c.args.deadline below good (sym c.holds.ensures ∙ c.if-holds.false) (ap (first_unserved table) (sym new) ∙ none_unserved table (slots c.with-tasks.result.table.rows) none) in
    let here = ap (λ f. (f c.args.id).held) new ∙ ap (λ r. r.held) (put_same s.slot c.args.id (admitted c.args.run c.args.period c.args.deadline) c.args.id refl) in
    let is = c.unwrap_or-level.ensures ∙ level_value _ _ _ here c.witness.ensures ∙ ap (λ f. witness table f c.args.id) new in
    record { answer = ap LevelIs is ∙ e.0; after = ap (with_rows s) new ∙ e.1; same = λ h. absurd (true≢false h) }
