use Rattle.std.proofs.Common.{◌≡◌, length, arith}
use Rattle.std.proofs.lemmas.List.{length-map}
use Rattle.std.proofs.lemmas.Bool.Decides.{nat_tests}
use Rattle.fixed.specs.Listed.{listed}
use Rattle.plan.specs.Lists.{rows_of}
use Rattle.plan.proofs.Cycles.{cycle_push}
use Rattle.plan.proofs.table.SlotTable.push.Goals as goal

pub returns-in_err-cycle-clause-value : goal.returns-in_err-cycle-clause-value
returns-in_err-cycle-clause-value c =
    rw (cycle_push (listed c.args.self.now.rows) c.args.row) (grind (arith, nat_tests, c.cycle_with.ensures))

pub returns-clause-value : goal.returns-clause-value
returns-clause-value c =
    let many : length (rows_of c.args.self.now) ≡ length (listed c.args.self.now.rows) = length-map _ _ in
    rw (cycle_push (listed c.args.self.now.rows) c.args.row, many) (grind (arith, nat_tests, c.cycle_with.ensures))
