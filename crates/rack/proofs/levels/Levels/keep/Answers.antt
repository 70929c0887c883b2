use Rattle.rack.specs.Cycle.{cycle_table}
use Rattle.rack.proofs.levels.Levels.keep.Goals as goal

pub invariant_of-self : goal.invariant_of-self
invariant_of-self c = record { some = c.args.self.now.some; few = c.args.self.now.few; summed = c.args.self.now.summed; known = c.put.ensures (cycle_table c.args.self.now.given c.args.self.now.cycle) c.args.self.now.known c.least_windows-least.ensures }
