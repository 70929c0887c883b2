use Rattle.std.proofs.Common.{◌≡◌, take, sym, refl, ap, ◌∙◌, subst, arith}
use Rattle.schedule.specs.State.{fresh}
use Rattle.schedule.specs.Shift.{ShiftLaw, shift}
use Rattle.schedule.proofs.Law.{shift_law}
use Rattle.dispatch.specs.Entries.{entries_of}
use Rattle.dispatch.proofs.Shifts.{carried_none, carried_more}
use Rattle.dispatch.proofs.shift.run_shift.Goals as goal

pub loop-i-init : goal.loop-i-init
loop-i-init g c = carried_none _ _ c.args.calls.now c.args.answers.now refl

pub loop-i-preserved : goal.loop-i-preserved
loop-i-preserved g c = carried_more _ _ _ c.args.calls.now c.args.answers.now c.loop-i.answers c.loop-i.i _ c.carry_out.result c.loop-i.invariant (omega arith) (omega arith) c.carry_out.ensures.answer c.carry_out.ensures.after

pub returns-clause-law : goal.returns-clause-law
returns-clause-law g c =
    let row = g.S.Supply.row c.args.supply in
    let table = g.S.Supply.table c.args.supply in
    let all : c.loop-i.i ≡ c.min-count.result = omega arith in
    let whole = simp all at c.loop-i.invariant in
    let calls = take c.min-count.result c.args.calls.now in
    let answered : entries_of calls (take c.min-count.result c.loop-i.answers) ≡ shift (fresh row table) calls = whole.entries ∙ ap (λ s. shift s calls) c.new-dispatcher.ensures in
    subst (ShiftLaw row table) (sym answered) (shift_law row table (g.met.S.Supply.bounded c.args.supply) (g.met.S.Supply.windows c.args.supply) calls)
