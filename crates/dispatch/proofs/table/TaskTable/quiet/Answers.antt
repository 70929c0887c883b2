use Rattle.std.proofs.Common.{◌∙◌}
use Rattle.dispatch.specs.Rows.{slots}
use Rattle.dispatch.proofs.Waiting.{count_quiet}
use Rattle.dispatch.proofs.table.TaskTable.quiet.Goals as goal

pub returns : goal.returns
returns c =
    let table = c.args.self.now in
    c.is_empty.ensures ∙ count_quiet (slots table.rows) table.jobs.keys table.jobs.count (record { sorted = table.jobs.sorted; holds = table.kept })
