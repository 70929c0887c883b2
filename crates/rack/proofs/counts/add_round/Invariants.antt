use Rattle.std.proofs.Common.{◌+◌}
use Rattle.plan.specs.Rows.{marks_of}
use Rattle.rack.specs.Slots.{gives}
use Rattle.rack.proofs.Counted.{Added}
use Rattle.rack.proofs.counts.add_round.Given as goal

abbrev pub invariant-loop-i : goal.invariant-loop-i
invariant-loop-i l = Added l.initial.counts l.counts (gives (marks_of l.row)) l.start (l.start + l.i)
