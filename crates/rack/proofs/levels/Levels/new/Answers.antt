use Rattle.std.proofs.Common.{arith, rules}
use Rattle.rack.specs.Cycle.{repeated}
use Rattle.rack.proofs.Sums.{levels_more}
use Rattle.rack.proofs.levels.Levels.new.Goals as goal

pub loop-j-preserved : goal.loop-j-preserved
loop-j-preserved c = (
  levels_more (repeated c.args.given.now c.args.cycle) c.args.cycle c.loop-j.sums-items c.loop-j.j c.fill.new.self (omega arith) c.loop-j.invariant.0 (rw (← c.at.ensures) c.fill.ensures),
  search rules,
)
