use Rattle.std.proofs.Common.{arith}
use Rattle.input.specs.Kept.{kept}
use Rattle.input.proofs.Keeping.{few, front_stays}
use Rattle.input.proofs.fill_front.Goals as goal

pub loop-preserved : goal.loop-preserved
loop-preserved g c =
    (omega (arith, c.read.auto.buf, c.loop.invariant.0), rw c.push.ensures (front_stays (kept c.args.front.now) (kept c.loop.front) _ (few c.args.front.now) c.loop.invariant.1))
