use Rattle.std.proofs.Common.{◌<◌, length, Some, arith}
use Rattle.dispatch.specs.Rows.{row_said, slots}
use Rattle.dispatch.proofs.Waiting.{room_behind, new_key, joined_holds, kept_set}
use Rattle.dispatch.proofs.jobs.Jobs.release.Goals as goal

pub join-requires-clause-few : goal.join-requires-clause-few
join-requires-clause-few c =
    let old = c.args.self.now in
    let left = c.leave.new.self in
    room_behind (slots c.args.rows.now) c.args.task.number c.args.task.below old.keys old.count c.requires.kept left.keys left.count left.sorted c.leave.ensures

pub join-requires-clause-new : goal.join-requires-clause-new
join-requires-clause-new c =
    let old = c.args.self.now in
    let left = c.leave.new.self in
    new_key (slots c.args.rows.now) c.args.task.number c.args.task.below old.keys old.count c.requires.kept left.keys left.count left.sorted c.leave.ensures (row_said (Some c.start.new.self))

pub returns-clause-kept : goal.returns-clause-kept
returns-clause-kept c =
    let rows = c.args.rows.now in
    let id = c.args.task.number in
    let old = c.args.self.now in
    let left = c.leave.new.self in
    let now = c.join.new.self in
    let inside : id < length rows = omega (arith, c.told-rows, c.args.task.below) in
    let holds = joined_holds (slots rows) id c.args.task.below old.keys old.count c.requires.kept left.keys left.count left.sorted c.leave.ensures (row_said (Some c.start.new.self)) now.keys now.count c.join.ensures in
    kept_set rows id (Some c.start.new.self) now.keys now.count inside holds
