use Rattle.std.proofs.Common.{arith, rules}
use Rattle.rack.specs.Cycle.{cycle_table}
use Rattle.rack.proofs.Places.{more_levels}
use Rattle.rack.proofs.levels.Levels.least_windows.Goals as goal

pub loop-j-preserved : goal.loop-j-preserved
loop-j-preserved c = (
  more_levels (λ j. cycle_table c.args.self.now.given c.args.self.now.cycle j c.args.s) c.loop-j.least-items c.loop-j.j c.least_window.result (omega arith) c.loop-j.invariant.0 (rw (← c.at.ensures) c.least_window.ensures),
  search rules,
)
