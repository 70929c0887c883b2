use Rattle.std.proofs.Common.{◌≡◌, ◌+◌, ◌*◌, ◌/◌, ◌≤◌, min, sym, refl, ◌∙◌, arith}
use Rattle.rack.specs.Cycle.{repeated, least_window}
use Rattle.rack.specs.CycleLemmas.{level_0, level_value, level_small, answered, repeated_round}
use Rattle.rack.proofs.levels.Levels.level.Goals as goal

pub returns-in_default : goal.returns-in_default
returns-in_default c =
    let none : min c.args.j 8 ≡ 0 = omega (arith, c.in_default.ensures.none) in
    answered c.args.self.now.given c.args.self.now.cycle (min c.args.j 8) (min c.args.n 8192) 0 (omega arith)
    (rw none (sym (level_0 _ c.args.self.now.cycle (min c.args.n 8192) (omega arith))))

value : (c : goal.After-from-least) → c.min-n.result / c.args.self.now.cycle * c.from-whole.result + c.from-least.result ≡ least_window c.in-Some.level.number (repeated c.args.self.now.given c.args.self.now.cycle) c.args.self.now.cycle c.min-n.result
value c =
    level_value
    c.in-Some.level.number
    c.args.self.now.cycle
    _
    (repeated_round c.args.self.now.given c.args.self.now.cycle)
    c.min-n.result
    c.from-whole.result
    c.from-least.result
    (omega arith)
    (c.from-whole.ensures ∙ c.sum.ensures)
    (c.from-least.ensures ∙ c.least.ensures)

small : (c : goal.After-from-least) → c.min-n.result / c.args.self.now.cycle * c.from-whole.result ≤ 65536
small c =
    omega (arith, level_value c.in-Some.level.number c.args.self.now.cycle _ (repeated_round c.args.self.now.given c.args.self.now.cycle) c.min-n.result c.from-whole.result _ (omega arith) (c.from-whole.ensures ∙ c.sum.ensures) refl, level_small c.in-Some.level.number c.args.self.now.cycle _ (repeated_round c.args.self.now.given c.args.self.now.cycle) c.min-n.result (omega arith) (omega arith))

pub overflow_mul-result : goal.overflow_mul-result
overflow_mul-result c = omega (arith, small c)

pub overflow_add-result : goal.overflow_add-result
overflow_add-result c =
    omega (arith, value c, level_small c.in-Some.level.number c.args.self.now.cycle _ (repeated_round c.args.self.now.given c.args.self.now.cycle) c.min-n.result (omega arith) (omega arith))

pub returns : goal.returns
returns c =
    answered c.args.self.now.given c.args.self.now.cycle (min c.args.j 8) (min c.args.n 8192) _ (omega arith)
    (rw (← c.in-Some.ensures.some, ← c.min-n.ensures) (value c))
