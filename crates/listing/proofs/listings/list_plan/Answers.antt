use Rattle.std.proofs.Common.{◌≡◌, ◌++◌, ◌∙◌, arith}
use mathlib.Core.Path.{fun_ext}
use Rattle.plan.specs.Contents.{contents}
use Rattle.schedule.specs.State.{fresh}
use Rattle.listing.specs.Listing.{rack_line, task_lines, over_rack}
use Rattle.listing.specs.Pages.{written, fitting}
use Rattle.listing.proofs.Laying.{fitting_on}
use Rattle.listing.proofs.Lengths.{plan_short}
use Rattle.listing.proofs.listings.list_plan.Goals as goal

pub returns : goal.returns
returns c =
    let k = contents c.args.plan.now in
    let before = written c.args.page.now in
    let rack = rack_line c.row_count-rows.result c.cycle-cycle.result in
    let state : _ ≡ over_rack k = c.new-dispatcher.ensures ∙ (λ i. fresh (fun_ext c.new.ensures.row i) (fun_ext (λ j. fun_ext (c.new.ensures.table j)) i)) in
    record {
      text =
          c.list_tasks.ensures
          ∙ fitting_on before rack _ (written c.put_line.new.self) c.put_line.ensures
          ∙ (λ i. fitting (before ++ (rack_line (c.row_count-rows.ensures.value i) (c.cycle-cycle.ensures.value i) ++ task_lines (state i) (c.cards.ensures.cards i))));
      few = plan_short k c.cards.result.now (omega (arith, c.row_count-rows.ensures.value, c.row_count-rows.ensures.few)) (omega (arith, c.cycle-cycle.ensures.value, c.cycle-cycle.ensures.few)) c.cards.ensures.cards c.cards.ensures.few;
    }
