use Rattle.std.proofs.Common.{◌≡◌}
use Rattle.rack.proofs.slots.SlotRack.new.Given as goal

abbrev pub invariant-loop-card : goal.invariant-loop-card
invariant-loop-card l = (l.levels.given ≡ l.initial.levels.given) × (l.levels.cycle ≡ l.initial.levels.cycle)
