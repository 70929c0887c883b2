use Rattle.std.proofs.Common.{sym, ap}
use Rattle.plan.specs.Rows.{first_from, cycle_of, periods_of}
use Rattle.plan.proofs.table.SlotTable.new.Goals as goal

pub invariant_of-result-clause-repeats : goal.invariant_of-result-clause-repeats
unfolding first_from
invariant_of-result-clause-repeats c = sym (ap (λ rows. cycle_of (periods_of rows)) c.filled_with.ensures)
