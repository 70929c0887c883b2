use Rattle.std.proofs.Common.{◌≡◌, ◌%◌, ◌≤◌}
use Rattle.plan.proofs.Cycles.{Below}
use Rattle.plan.proofs.table.SlotTable.cycle_with.Given as goal

abbrev pub invariant-loop-h : goal.invariant-loop-h
invariant-loop-h l = (1 ≤ l.h) × (l.h % l.self.cycle ≡ 0) × Below l.self l.row l.h
