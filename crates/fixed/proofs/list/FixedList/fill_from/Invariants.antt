use Rattle.std.proofs.Common.{◌≡◌, ◌++◌, take, drop}
use Rattle.fixed.specs.Listed.{listed}
use Rattle.fixed.proofs.list.FixedList.fill_from.Given as goal

-- what is held and what is still to come fill the room as all of it does
abbrev pub invariant-loop-item : goal.invariant-loop-item
invariant-loop-item g l = take g.row.N (listed l.self ++ drop l.item-index l.more) ≡ take g.row.N (listed l.initial.self ++ l.more)
