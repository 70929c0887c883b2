use Rattle.dispatch.proofs.Keys.{among_none}
use Rattle.dispatch.proofs.jobs.Jobs.none.Goals as goal

pub returns : goal.returns
returns c = among_none _
