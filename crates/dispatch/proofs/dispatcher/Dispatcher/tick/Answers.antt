use Rattle.std.proofs.Common.{refl, ap, ◌∙◌}
use Rattle.std.proofs.lemmas.Bool.{true≢false}
use Rattle.schedule.specs.declared.Answer.TheVariants.{Ticked}
use Rattle.schedule.specs.declared.Call.TheVariants.{Tick}
use Rattle.schedule.specs.Calls.{changed}
use Rattle.schedule.specs.Order.{word, runs, spent}
use Rattle.dispatch.specs.Dispatcher.{state_of}
use Rattle.dispatch.specs.Rows.{slots}
use Rattle.dispatch.proofs.Refusals.{tick_ends, tick_passes, same_state}
use Rattle.dispatch.proofs.dispatcher.Dispatcher.tick.Goals as goal

pub returns-then-self-ge-MAX_CLOCK : goal.returns-then-self-ge-MAX_CLOCK
returns-then-self-ge-MAX_CLOCK g c =
    let s = state_of g.S.Supply.row g.S.Supply.table c.args.self.now in
    let e = tick_ends s c.if-self-ge-MAX_CLOCK.true in
    record { answer = e.0; after = e.1; same = λ _. refl }

pub returns : goal.returns
returns g c =
    let s = state_of g.S.Supply.row g.S.Supply.table c.args.self.now in
    let e = tick_passes s c.if-self-ge-MAX_CLOCK.false in
    let next = c.next_tick-given.ensures in
    let slot = ap (λ t. slots t.table.rows) next.tasks in
    let ran = c.run-ran.ensures.word ∙ ap (λ f. word f c.next_tick-given.result) slot in
    let rows = c.run-ran.ensures.rows ∙ ap (λ f i. spent (runs f c.next_tick-given.result i) (f i)) slot in
    record {
      answer = ap (Ticked c.next_tick-given.result) ran ∙ ap (λ x. Ticked x (word s.slot x)) next.given ∙ e.0;
      after = same_state _ (changed s Tick) next.rest next.same next.clock (rows ∙ ap (λ x i. spent (runs s.slot x i) (s.slot i)) next.given) ∙ e.1;
      same = λ h. absurd (true≢false h);
    }
