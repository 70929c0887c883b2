use Rattle.std.proofs.Common.{◌≡◌, ℕ, ◌<◌, map, length}
use Rattle.plan.specs.Contents.{contents}
use Rattle.plan.specs.Rows.{cycle_of}
use Rattle.rack.proofs.Slotted.{Sofar}
use Rattle.rack.proofs.counts.counts.Given as goal

abbrev pub invariant-loop-row : goal.invariant-loop-row
invariant-loop-row l =
    (length l.counts ≡ 512)
    × ((x : ℕ) → x < cycle_of (map length (contents l.plan).rows) → Sofar (contents l.plan).rows l.row-index l.counts x)
