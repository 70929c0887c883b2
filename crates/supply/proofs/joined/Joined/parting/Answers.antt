use Rattle.std.proofs.Common.{◌-◌, arith}
use Rattle.supply.specs.Windows.{level_cap, within_limits}
use Rattle.supply.proofs.joined.Joined.parting.Goals as goal

pub overflow_add-result : goal.overflow_add-result
overflow_add-result g c =
    let first = level_cap _ _ (g.met.P.Supply.windows c.args.self.now.first) in
    let second = level_cap _ _ (g.met.Q.Supply.windows c.args.self.now.second) in
    omega (arith, c.level.ensures, c.level-2.ensures)

pub returns : goal.returns
returns g c = omega (
  arith,
  within_limits (g.P.Supply.table c.args.self.now.first) c.args.i c.args.n (omega arith) (omega arith),
  within_limits (g.Q.Supply.table c.args.self.now.second) (c.args.j - c.args.i) c.args.n (omega arith) (omega arith),
)
