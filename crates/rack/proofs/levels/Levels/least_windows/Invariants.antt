use Rattle.std.proofs.Common.{◌≡◌, ℕ, suc, ◌<◌, length, get_or}
use Rattle.rack.specs.Cycle.{cycle_table}
use Rattle.rack.proofs.levels.Levels.least_windows.Given as goal

abbrev pub invariant-loop-j : goal.invariant-loop-j
invariant-loop-j l =
    ((j : ℕ) → j < l.j → get_or l.least-items j 0 ≡ cycle_table l.self.given l.self.cycle (suc j) l.s)
    × (length l.least-items ≡ 8)
