use Rattle.std.proofs.Common.{sym, refl, ap, ◌∙◌}
use mathlib.Core.Path.{fun_ext}
use Rattle.schedule.specs.Order.{unfinished}
use Rattle.dispatch.specs.Rows.{carded}
use Rattle.dispatch.proofs.Tables.{slots_blank}
use Rattle.dispatch.proofs.Waiting.{waits_none}
use Rattle.dispatch.proofs.table.TaskTable.new.Goals as goal

pub invariant_of-result : goal.invariant_of-result
invariant_of-result c = record { full = refl; times = λ i. ap carded (slots_blank i); kept = λ x. c.none.ensures x ∙ sym (waits_none _ (λ i. ap unfinished (slots_blank i)) x) }

pub returns : goal.returns
returns c = fun_ext slots_blank
