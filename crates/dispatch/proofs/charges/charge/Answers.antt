use Rattle.std.proofs.Common.{refl}
use Rattle.schedule.specs.Test.{charge}
use Rattle.dispatch.proofs.charges.charge.Goals as goal

pub returns-clause-value : goal.returns-clause-value
unfolding charge
returns-clause-value c = simp (c.min.ensures, c.run-2.ensures, c.deadline-2.ensures, c.period-2.ensures, c.run.ensures, c.deadline.ensures, c.period.ensures) refl
