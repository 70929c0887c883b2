use Rattle.std.proofs.Common.{arith}
use Rattle.dispatch.specs.Rows.{slots}
use Rattle.dispatch.proofs.Loads.{load_few}
use Rattle.dispatch.proofs.Tables.{held_below}
use Rattle.dispatch.proofs.held.HeldTasks.load.Goals as goal

pub returns-clause-few : goal.returns-clause-few
returns-clause-few c =
    let table = c.args.self.now.table in
    omega (arith, c.args.self.now.loaded c.args.id (held_below table.rows c.args.id table.full c.requires) c.requires, load_few (slots table.rows) table.times c.args.id c.requires)
