use Rattle.std.proofs.Common.{refl}
use Rattle.schedule.proofs.Levels.{test_means}
use Rattle.schedule.proofs.Jobs.{order_means}
use Rattle.schedule.proofs.Law.{refused_stays, shift_law}
use Rattle.schedule.proofs.guarantee_holds.Goals as goal

pub returns : goal.returns
returns c = record { value = refl; test = test_means; order = order_means; refusals = refused_stays; shift = shift_law }
