use Rattle.std.proofs.Common.{arith}
use Rattle.dispatch.specs.Rows.{row_said, slots}
use Rattle.dispatch.proofs.Waiting.{left_holds, kept_set}
use Rattle.dispatch.proofs.jobs.Jobs.replace.Goals as goal

pub returns-clause-kept : goal.returns-clause-kept
returns-clause-kept c =
    let rows = c.args.rows.now in
    let id = c.args.task.number in
    let old = c.args.self.now in
    let left = c.leave.new.self in
    let holds = left_holds (slots rows) id c.args.task.below old.keys old.count c.requires.kept left.keys left.count left.sorted c.leave.ensures (row_said c.args.row) c.requires.finished in
    kept_set rows id c.args.row left.keys left.count (omega (arith, c.told-rows, c.args.task.below)) holds
