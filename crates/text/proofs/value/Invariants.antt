use Rattle.std.proofs.Common.{◌≡◌, ◌^◌, ◌<◌, drop}
use Rattle.text.specs.Decimal.{value_after}
use Rattle.text.proofs.value.Given as goal

abbrev pub invariant-loop-b : goal.invariant-loop-b
invariant-loop-b l = (value_after l.n (drop l.b-index l.s) ≡ value_after 0 l.s) × (l.n < 10 ^ l.b-index)
