use Rattle.plan.proofs.Cycles.{cycle_law}
use Rattle.plan.proofs.laws.cycle_law.Goals as goal

pub returns-clause-law : goal.returns-clause-law
returns-clause-law c = cycle_law
