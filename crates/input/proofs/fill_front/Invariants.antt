use Rattle.std.proofs.Common.{◌≡◌, length, take}
use Rattle.input.specs.Kept.{kept}
use Rattle.input.proofs.fill_front.Given as goal

-- what was kept before stays in front
abbrev pub invariant-loop : goal.invariant-loop
invariant-loop g l = (length l.chunk ≡ 512) × (take (length (kept l.initial.front)) (kept l.front) ≡ kept l.initial.front)
