use Rattle.std.proofs.Common.{◌≡◌, ℕ, ◌+◌, ◌-◌, ◌≤◌, min, max, ℤ, pos, ◌-ℤ◌, sym, refl, ap, ◌∙◌, arith, w16, to_z, of_z}
use borrow.Author.Differences.{up}
use Rattle.std.proofs.lemmas.Int.{ints, clamps}
use Rattle.std.specs.Int.{int_max, int_min}
use Rattle.supply.specs.Window.{window}
use Rattle.rack.specs.Cycle.{repeated, least_window}
use Rattle.rack.specs.CycleLemmas.{least_none, least_after, repeated_round, whole_least}
use Rattle.rack.specs.LeastLemmas.{least_one, least_next}
use Rattle.rack.proofs.Sums.{window_small}
use Rattle.rack.proofs.levels.Levels.least_window.Goals as goal

small : (c : goal.After-sum-least) → c.sum-least.result ≤ 4096
small c =
    omega (arith, c.sum-least.ensures, window_small c.args.level.number (repeated c.args.self.now.given c.args.self.now.cycle) 0 c.args.s (omega arith))

whole_small : (c : goal.After-sum-whole) → c.sum-whole.result ≤ 4096
whole_small c =
    omega (arith, c.sum-whole.ensures, window_small c.args.level.number (repeated c.args.self.now.given c.args.self.now.cycle) 0 c.args.self.now.cycle (omega arith))

-- the greater of two numbers that are not negative
raised : {z a : ℤ} {v : ℕ} → z ≡ int_max a (to_z w16 v) → a ≡ pos (up a) → v ≤ 4096 → max (up a) v ≤ 4096 → to_z w16 (of_z w16 z) ≡ pos (max (up a) v)
raised e ea few most = omega (arith, ints, clamps)

-- the lesser of two numbers that are not negative, one of them a difference
lowered : {z a m : ℤ} {l w whole : ℕ} → z ≡ int_min a (to_z w16 (of_z w16 (to_z w16 w -ℤ m))) → a ≡ pos l → m ≡ pos (up m) → w ≡ whole → up m ≤ whole → w ≤ 4096 → to_z w16 (of_z w16 z) ≡ pos (min l (whole - up m))
lowered e ea em ew le few = omega (arith, ints, clamps)

pub overflow_cast-least : goal.overflow_cast-least
overflow_cast-least c = omega (arith, ints, small c)

pub loop-x-init : goal.loop-x-init
loop-x-init c =
    omega (arith, ints, small c, c.sum-least.ensures, least_one (λ x. window c.args.level.number (repeated c.args.self.now.given c.args.self.now.cycle) x c.args.s))

pub loop-x-preserved : goal.loop-x-preserved
loop-x-preserved c =
    let row : ℕ → ℕ = repeated c.args.self.now.given c.args.self.now.cycle in
    let next = least_next (λ x. window c.args.level.number row x c.args.s) c.loop-x.x _ c.window_within.result (omega arith) refl c.window_within.ensures.value in
    omega (arith, ints, clamps, c.min-least.ensures.value, c.loop-x.invariant, c.window_within.ensures.few, next)

pub loop-x-2-init : goal.loop-x-2-init
loop-x-2-init c =
    (refl, omega arith, least_none c.args.level.number c.args.self.now.cycle _ (repeated_round c.args.self.now.given c.args.self.now.cycle) c.args.s (c.args.self.now.cycle - c.args.s) (omega arith) (omega arith))

pub loop-x-2-preserved : goal.loop-x-2-preserved
loop-x-2-preserved c =
    let on =
    least_after c.args.level.number c.args.self.now.cycle _ (repeated_round c.args.self.now.given c.args.self.now.cycle) _ _ c.window_within-in-loop-x-2.result c.loop-x-2.x c.args.s (c.args.self.now.cycle - c.args.s) (omega arith) (omega arith) c.loop-x-2.invariant.1 c.window_within-in-loop-x-2.ensures.value c.loop-x-2.invariant.2 in
    let is = raised c.max-most.ensures.value c.loop-x-2.invariant.0 c.window_within-in-loop-x-2.ensures.few (omega (arith, on.0, window_small c.args.level.number (repeated c.args.self.now.given c.args.self.now.cycle) 0 c.args.self.now.cycle (omega arith))) in
    (rw is refl, rw is on.0, rw is on.1)

pub overflow_cast-whole : goal.overflow_cast-whole
overflow_cast-whole c = omega (arith, ints, whole_small c)

pub overflow_sub-whole : goal.overflow_sub-whole
overflow_sub-whole c = omega (arith, ints, whole_small c, c.sum-whole.ensures, c.loop-x-2.invariant.0, c.loop-x-2.invariant.1)

-- the least of all starts: of those within the cycle, and of the others
found : (c : goal.After-min) → to_z w16 (of_z w16 c.min.result) ≡ pos (least_window c.args.level.number (repeated c.args.self.now.given c.args.self.now.cycle) c.args.self.now.cycle c.args.s)
found c =
    let row : ℕ → ℕ = repeated c.args.self.now.given c.args.self.now.cycle in
    let within : c.loop-x.x ≡ c.args.self.now.cycle - c.args.s = omega arith in
    let all : c.args.self.now.cycle - c.args.s + c.loop-x-2.x ≡ c.args.self.now.cycle = omega arith in
    let inside = c.loop-x.invariant ∙ ap (λ n. pos (least_window c.args.level.number row n c.args.s)) within in
    let few : c.sum-whole.result ≤ 4096 = omega (arith, c.sum-whole.ensures, window_small c.args.level.number row 0 c.args.self.now.cycle (omega arith)) in
    lowered c.min.ensures.value inside c.loop-x-2.invariant.0 c.sum-whole.ensures c.loop-x-2.invariant.1 few
    ∙ ap pos (c.loop-x-2.invariant.2 ∙ ap (λ n. least_window c.args.level.number row n c.args.s) all)

pub overflow_cast-result : goal.overflow_cast-result
overflow_cast-result c = omega (arith, ints, found c)

pub returns : goal.returns
returns c = omega (arith, ints, found c)

pub returns-then-s-self : goal.returns-then-s-self
returns-then-s-self c =
    let row : ℕ → ℕ = repeated c.args.self.now.given c.args.self.now.cycle in
    let whole = whole_least c.args.level.number c.args.self.now.cycle row (repeated_round c.args.self.now.given c.args.self.now.cycle) (omega arith) in
    c.sum.ensures ∙ ap (window c.args.level.number row 0) c.if-s-self.true ∙ sym whole ∙ sym (ap (least_window c.args.level.number row c.args.self.now.cycle) c.if-s-self.true)
