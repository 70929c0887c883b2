use Rattle.std.proofs.Common.{length, ap, arith}
use Rattle.text.proofs.Parts.{parts_some}
use Rattle.plan.proofs.fields.rest.Rest.last.Goals as goal

pub returns-in-Some : goal.returns-in-Some
returns-in-Some c =
    (omega (arith, ap length c.in-Some.ensures.0, parts_some 44 c.in-Some.field-0.1.now), c.at.ensures)
