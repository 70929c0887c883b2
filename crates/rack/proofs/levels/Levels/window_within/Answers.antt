use Rattle.std.proofs.Common.{◌≡◌, ◌-◌, ◌≤◌, arith}
use Rattle.supply.specs.Window.{window}
use Rattle.rack.specs.Cycle.{repeated}
use Rattle.rack.specs.CycleLemmas.{window_between}
use Rattle.rack.proofs.Sums.{window_small}
use Rattle.rack.proofs.levels.Levels.window_within.Goals as goal

between : (c : goal.After-sum-2) → (c.sum-2.result ≤ c.sum.result) × (c.sum.result - c.sum-2.result ≡ window c.args.level.number (repeated c.args.self.now.given c.args.self.now.cycle) c.args.x c.args.s)
between c = window_between c.args.level.number _ c.args.x c.args.s _ _ c.sum.ensures c.sum-2.ensures

pub overflow_sub-result : goal.overflow_sub-result
overflow_sub-result c = (between c).0

pub returns : goal.returns
returns c = record {
  value = (between c).1;
  few = omega (arith, (between c).1, window_small c.args.level.number (repeated c.args.self.now.given c.args.self.now.cycle) c.args.x c.args.s (omega arith));
}
