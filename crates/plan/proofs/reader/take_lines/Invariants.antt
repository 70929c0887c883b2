use Rattle.std.proofs.Common.{◌≡◌, ◌+◌, ◌≤◌, length}
use Rattle.text.specs.Bytes.{parts}
use Rattle.plan.specs.Contents.{drafted}
use Rattle.plan.specs.Reading.{with_lines}
use Rattle.plan.proofs.reader.take_lines.Given as goal

-- what the lines that are left say is what all of them say
abbrev pub invariant-loop-i : goal.invariant-loop-i
invariant-loop-i l =
    let left = l.i-iterator.iter.rest.now in
    (with_lines (l.i-iterator.count + 1) (drafted l.draft) (parts 10 left) ≡ with_lines 1 (drafted l.initial.draft) (parts 10 l.text)) × (l.i-iterator.count + length left ≤ 8192)
