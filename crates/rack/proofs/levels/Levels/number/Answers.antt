use Rattle.std.proofs.Common.{arith, ap, get_or}
use Rattle.rack.proofs.Sums.{repeated_first}
use Rattle.rack.proofs.levels.Levels.number.Goals as goal
use Rattle.rack.proofs.levels.Levels.number.Goals.{then-x-self, else-x-self}

pub returns : goal.returns
returns c =
    elim c.if-x-self.branch [
      | then-x-self w ↦ omega (arith, repeated_first c.args.self.now.given c.args.self.now.cycle c.args.x w.if-x-self.true, ap (λ y. get_or c.args.self.now.given y 0) w.tick-is)
      | else-x-self w ↦ omega (arith, ap (λ y. get_or c.args.self.now.given y 0) w.tick-is)
    ]
