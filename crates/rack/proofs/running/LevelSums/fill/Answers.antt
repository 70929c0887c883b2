use Rattle.std.proofs.Common.{arith, get_or-set_same, rules}
use Rattle.rack.specs.Cycle.{repeated}
use Rattle.rack.proofs.Sums.{window_small, summed_none, summed_more}
use Rattle.rack.proofs.running.LevelSums.fill.Goals as goal

pub overflow_add-self : goal.overflow_add-self
overflow_add-self c = omega (
  arith,
  c.loop-k.invariant.0 c.loop-k.k (omega arith),
  window_small c.args.level.number (repeated c.args.given.now c.args.cycle) 0 c.loop-k.k (omega arith),
)

pub loop-k-init : goal.loop-k-init
loop-k-init c = (summed_none c.args.level.number (repeated c.args.given.now c.args.cycle) _ (get_or-set_same c.args.self.now.sums 0 0 0 (omega arith)), search rules)

pub loop-k-preserved : goal.loop-k-preserved
loop-k-preserved c = (summed_more c.args.level.number c.args.cycle c.args.given.now c.loop-k.self.sums c.loop-k.k _ (omega arith) (omega arith) (omega arith) c.loop-k.invariant.0 (omega arith), search rules)
