use Rattle.rack.specs.Cycle.{cycle_table}
use Rattle.rack.proofs.levels.Levels.least.Goals as goal

pub returns-in-Some : goal.returns-in-Some
returns-in-Some c =
    c.get.ensures (cycle_table c.args.self.now.given c.args.self.now.cycle) c.in-Some.least c.args.self.now.known c.in-Some.is
