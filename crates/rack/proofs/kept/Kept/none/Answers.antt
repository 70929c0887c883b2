use Rattle.rack.proofs.Places.{none_placed}
use Rattle.rack.proofs.kept.Kept.none.Goals as goal

pub invariant_of-result : goal.invariant_of-result
invariant_of-result c = record { placed = λ s p e. absurd (cc (none_placed 512 s, e)) }

pub returns : goal.returns
returns c = none_placed 512
