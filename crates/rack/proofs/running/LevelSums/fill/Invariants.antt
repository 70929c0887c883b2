use Rattle.std.proofs.Common.{◌≡◌, length}
use Rattle.rack.specs.Cycle.{repeated}
use Rattle.rack.specs.Sums.{Summed}
use Rattle.rack.proofs.running.LevelSums.fill.Given as goal

abbrev pub invariant-loop-k : goal.invariant-loop-k
invariant-loop-k l = Summed l.level.number (repeated l.given l.cycle) l.k l.self.sums × (length l.self.sums ≡ 513)
