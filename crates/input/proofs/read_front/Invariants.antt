use Rattle.std.proofs.Common.{◌≤◌, ◌-◌}
use Rattle.input.proofs.read_front.Given as goal

abbrev pub invariant-loop-filled : goal.invariant-loop-filled
invariant-loop-filled g l = l.filled ≤ 8193

abbrev pub decreases-loop-filled : goal.decreases-loop-filled
decreases-loop-filled g l = 8193 - l.filled
