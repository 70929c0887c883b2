use Rattle.plan.proofs.Lawfulness.{reading_law}
use Rattle.plan.proofs.lawful.reading_law.Goals as goal

pub returns-clause-law : goal.returns-clause-law
returns-clause-law c = reading_law
