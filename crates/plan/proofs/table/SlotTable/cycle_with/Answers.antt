use Rattle.std.proofs.Common.{◌+◌, ◌%◌, sym, ap, ◌∙◌, arith}
use native.Mathlib.Nat.{mod_self, add-mod_right}
use Rattle.plan.proofs.Cycles.{least, first_multiple, next_multiple, at_multiple, no_multiple}
use Rattle.plan.proofs.table.SlotTable.cycle_with.Goals as goal

pub nonzero_div-h-step : goal.nonzero_div-h-step
nonzero_div-h-step c = (least c.args.self.now).0

pub loop-h-init : goal.loop-h-init
loop-h-init c =
    let t = c.args.self.now in ((least t).0, mod_self t.cycle, first_multiple t c.args.row.now)

pub loop-h-preserved : goal.loop-h-preserved
loop-h-preserved c =
    let t = c.args.self.now in
    let h = c.loop-h.h in
    let inv = c.loop-h.invariant in
    (omega (arith, inv.0), add-mod_right h t.cycle ∙ inv.1, next_multiple t c.args.row.now h inv.1 (λ e. c.if-h-period-eq0.false (ap (λ p. h % p) c.period.ensures.value ∙ e)) inv.2)

pub returns-then-h-period-eq0 : goal.returns-then-h-period-eq0
returns-then-h-period-eq0 c =
    let inv = c.loop-h.invariant in
    at_multiple c.args.self.now c.args.row.now c.loop-h.h inv.0 c.loop-h-test.true inv.1 (ap (λ p. c.loop-h.h % p) (sym c.period.ensures.value) ∙ c.if-h-period-eq0.true) inv.2

pub returns-else-h-period-eq0 : goal.returns-else-h-period-eq0
returns-else-h-period-eq0 c =
    let t = c.args.self.now in
    let h = c.loop-h.h in
    let inv = c.loop-h.invariant in
    no_multiple t c.args.row.now (h + t.cycle) (omega arith) (next_multiple t c.args.row.now h inv.1 (λ e. c.if-h-period-eq0.false (ap (λ p. h % p) c.period.ensures.value ∙ e)) inv.2)

pub returns : goal.returns
returns c = no_multiple c.args.self.now c.args.row.now c.loop-h.h c.loop-h-test.false c.loop-h.invariant.2
