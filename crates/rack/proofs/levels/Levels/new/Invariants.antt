use Rattle.std.proofs.Common.{◌≡◌, ℕ, suc, ◌<◌, length}
use Rattle.rack.specs.Cycle.{repeated}
use Rattle.rack.specs.Sums.{Summed, sums_at}
use Rattle.rack.proofs.levels.Levels.new.Given as goal

abbrev pub invariant-loop-j : goal.invariant-loop-j
invariant-loop-j l =
    ((j : ℕ) → j < l.j → Summed (suc j) (repeated l.given l.cycle) l.cycle (sums_at l.sums-items j))
    × (length l.sums-items ≡ 8)
