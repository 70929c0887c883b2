use Rattle.std.proofs.Common.{◌≡◌, ◌-◌, ◌%◌, ◌≤◌, length}
use Rattle.plan.specs.Rows.{marks_of}
use Rattle.rack.specs.Slots.{gives}
use Rattle.rack.proofs.Counted.{Added}
use Rattle.rack.proofs.counts.add_row.Given as goal

-- whole rounds are counted
abbrev pub invariant-loop-start : goal.invariant-loop-start
invariant-loop-start l =
    Added l.initial.counts l.counts (gives (marks_of l.row)) 0 l.start
    × (l.start % length (marks_of l.row) ≡ 0)
    × (l.start ≤ l.cycle)

abbrev pub decreases-loop-start : goal.decreases-loop-start
decreases-loop-start l = l.cycle - l.start
