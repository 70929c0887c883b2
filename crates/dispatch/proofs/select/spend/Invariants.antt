use Rattle.std.proofs.Common.{◌≡◌, ℕ, ◌&&◌, eqb, ltb, length}
use Rattle.dispatch.specs.Rows.{slots}
use Rattle.schedule.specs.Order.{names, spent}
use Rattle.dispatch.proofs.select.spend.Given as goal

-- of the rows below i, each that the word names lacks one tick less; the others are as they were
abbrev pub invariant-loop-i : goal.invariant-loop-i
invariant-loop-i l =
    (length l.rows ≡ 32)
    × ((k : ℕ) → slots l.rows k ≡ spent (ltb k l.i && eqb (names l.ran k) 1) (slots l.initial.rows k))
