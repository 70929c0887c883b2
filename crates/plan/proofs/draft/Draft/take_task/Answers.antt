use Rattle.std.proofs.Common.{arith}
use Rattle.std.proofs.lemmas.Grind.{common_steps}
use Rattle.plan.proofs.draft.Draft.take_task.Goals as goal

pub returns-in_err-card : goal.returns-in_err-card
returns-in_err-card c = grind (arith, common_steps)

pub returns : goal.returns
returns c = grind (arith, common_steps)
