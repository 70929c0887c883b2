use Rattle.std.proofs.Common.{get_or, sym, ◌∙◌, arith, length-set}
use Rattle.dispatch.specs.Rows.{slots}
use Rattle.schedule.proofs.Next.{NextJob, word_none, word_whole}
use Rattle.dispatch.proofs.Picks.{due_sooner, left_first, left_next, next_by_time, none_by_time, word_picked}
use Rattle.dispatch.proofs.select.select.Goals as goal

pub loop-picked-init : goal.loop-picked-init
loop-picked-init c =
    let slot = slots c.args.rows.now in
    (c.due_times-times.ensures.full, sym (word_none slot), left_first slot c.due_times-times.result c.due_times-times.ensures.value)

pub loop-picked-preserved : goal.loop-picked-preserved
loop-picked-preserved c =
    let slot = slots c.args.rows.now in
    let next : NextJob slot c.loop-picked._picked c.soonest-k.result = next_by_time slot c.loop-picked._picked c.loop-picked.times c.loop-picked.invariant.2 c.soonest-k.result c.soonest-k.ensures c.if-times-k.false in (
      simp length-set c.loop-picked.invariant.0,
      word_picked slot c.loop-picked._picked c.soonest-k.result c.loop-picked.word c.loop-picked.invariant.1 next,
      left_next slot c.loop-picked._picked c.soonest-k.result c.loop-picked.times c.loop-picked.invariant.0 c.loop-picked.invariant.2 next,
    )

pub returns-then-times-k : goal.returns-then-times-k
returns-then-times-k c =
    let slot = slots c.args.rows.now in
    c.loop-picked.invariant.1 ∙ sym (word_whole slot c.loop-picked._picked c.args.given (omega arith)
    (none_by_time slot c.loop-picked._picked c.loop-picked.times c.loop-picked.invariant.2 c.soonest-k.result c.soonest-k.ensures c.if-times-k.true
    (λ i h u. due_sooner (slot i) (get_or c.due_times-times.result i 0) (c.due_times-times.ensures.value i h) u (c.due_times-times.ensures.sooner i h u))))
