use Rattle.std.proofs.Common.{◌+◌, ◌++◌, map, drop, sym, ap, ◌∙◌}
use Rattle.dispatch.specs.Dispatcher.{state_of}
use Rattle.task.specs.Task.{task_of}
use Rattle.listing.specs.Listing.{task_lines}
use Rattle.listing.specs.Pages.{written, fitting}
use Rattle.listing.proofs.Laying.{fitting_on, page_whole}
use Rattle.listing.proofs.Listed.{lines_more, lines_done}
use Rattle.listing.proofs.listings.list_tasks.Goals as goal

pub loop-card-preserved : goal.loop-card-preserved
loop-card-preserved g c =
    let so = written c.loop-card.page in
    let s = state_of g.S.Supply.row g.S.Supply.table c.loop-card.dispatcher in
    ap (λ q. fitting (written c.list_task.new.page ++ task_lines q (map task_of (drop (c.loop-card.card-index + 1) c.args.cards.now)))) c.list_task.ensures.state
    ∙ fitting_on so _ _ _ c.list_task.ensures.text
    ∙ ap (λ l. fitting (so ++ l)) (sym (lines_more s c.args.cards.now c.loop-card.card-index c.card-item.result c.loop-card-test.true c.card-item.is))
    ∙ c.loop-card.invariant

pub returns : goal.returns
returns g c =
    let s = state_of g.S.Supply.row g.S.Supply.table c.loop-card.dispatcher in
    sym (page_whole c.loop-card.page)
    ∙ ap (λ l. fitting (written c.loop-card.page ++ l)) (sym (lines_done s c.args.cards.now c.loop-card.card-index c.loop-card-test.false))
    ∙ c.loop-card.invariant
