use Rattle.std.proofs.Common.{map, length, sym, ap, ◌∙◌, subst, arith}
use Rattle.fixed.specs.Listed.{listed}
use Rattle.plan.specs.Lists.{rows_of}
use Rattle.plan.specs.Rows.{cycle_of, LeastCommon}
use Rattle.plan.proofs.Cycles.{lengths, least_common}
use Rattle.plan.proofs.table.SlotTable.cycle.Goals as goal

pub returns-clause-value : goal.returns-clause-value
returns-clause-value c = c.args.self.now.repeats ∙ sym (ap cycle_of (lengths (listed c.args.self.now.rows)))

pub returns-clause-least : goal.returns-clause-least
returns-clause-least c =
    let same = returns-clause-value c in
    subst (LeastCommon (map length (rows_of c.args.self.now))) (sym same) (least_common (map length (rows_of c.args.self.now)) (omega arith))
