use Rattle.std.proofs.Common.{◌≡◌, take, drop}
use Rattle.fixed.specs.Listed.{listed}
use Rattle.plan.specs.Marks.{all_marks, given as givenBy}
use Rattle.plan.proofs.row.SlotRow.new.Given as goal

abbrev pub invariant-loop-b : goal.invariant-loop-b
invariant-loop-b l =
    (all_marks (drop l.b-index l.bytes) ≡ all_marks l.bytes) × (listed l.marks ≡ givenBy (take l.b-index l.bytes))
