use Rattle.std.proofs.Common.{◌≡◌, true, ◌+◌, ◌-◌, ◌<◌, ltb, get_or, Some, sym, refl, ap, ◌∙◌, subst, arith}
use mir.Val.{bool_byte}
use Rattle.schedule.specs.Order.{spent}
use Rattle.dispatch.specs.Rows.{row_said, slots}
use Rattle.dispatch.proofs.Keys.{Filtered, filtered_none, filtered_more}
use Rattle.dispatch.proofs.Places.{InOrder}
use Rattle.dispatch.proofs.Tables.{unfinished_below}
use Rattle.dispatch.proofs.Ticks.{Ran, stays, ran_first, stays_first, lacks_here, stays_here, ran_more, word_behind, kept_behind}
use Rattle.dispatch.proofs.jobs.Jobs.run.Goals as goal

pub loop-at-init : goal.loop-at-init
loop-at-init c =
    let rows = c.args.rows.now in
    let old = c.args.self.now in
    let kept : InOrder (slots rows) old.keys old.count = record { sorted = old.sorted; holds = c.requires } in
    let first = c.saturating_sub-first.result in
    let from = c.saturating_sub-first.ensures in
    let within = unfinished_below rows c.told-rows in (
      ran_first (slots rows) old.keys old.count kept within c.args.given first from rows c.told-rows (λ i. refl),
      filtered_none old.keys old.count first (stays (slots rows) c.args.given) old.sorted (omega (arith, from)) (stays_first (slots rows) old.keys old.count kept within c.args.given first from),
      refl,
      omega arith,
    )

pub unreachable-requires : goal.unreachable-requires
unreachable-requires c =
    let rows = c.args.rows.now in
    let old = c.args.self.now in
    let kept : InOrder (slots rows) old.keys old.count = record { sorted = old.sorted; holds = c.requires } in
    let key = get_or c.loop-at.self.keys c.loop-at.at 0 in
    let is = c.loop-at.invariant.1.rest c.loop-at.at (omega arith) in
    let lacks = lacks_here (slots rows) old.keys old.count kept (unfinished_below rows c.told-rows) c.args.given c.saturating_sub-first.result c.saturating_sub-first.ensures c.loop-at.at key c.loop-at-test.true c.loop-at.auto.at is c.loop-at.rows c.loop-at.word c.loop-at.invariant.0 in
    absurd (omega (arith, lacks, ap (λ o. (row_said o).lacking) c.in_default.is))

pub work-requires : goal.work-requires
work-requires c =
    let rows = c.args.rows.now in
    let old = c.args.self.now in
    let kept : InOrder (slots rows) old.keys old.count = record { sorted = old.sorted; holds = c.requires } in
    let key = get_or c.loop-at.self.keys c.loop-at.at 0 in
    let is = c.loop-at.invariant.1.rest c.loop-at.at (omega arith) in
    let lacks = lacks_here (slots rows) old.keys old.count kept (unfinished_below rows c.told-rows) c.args.given c.saturating_sub-first.result c.saturating_sub-first.ensures c.loop-at.at key c.loop-at-test.true c.loop-at.auto.at is c.loop-at.rows c.loop-at.word c.loop-at.invariant.0 in
    subst (λ o. 0 < (row_said o).lacking) c.in-Some.is lacks

pub loop-at-preserved : goal.loop-at-preserved
loop-at-preserved c =
    let slot = slots c.args.rows.now in
    let old = c.args.self.now in
    let kept : InOrder slot old.keys old.count = record { sorted = old.sorted; holds = c.requires } in
    let now = c.loop-at.self in
    let at = c.loop-at.at in
    let g = c.args.given in
    let first = c.saturating_sub-first.result in
    let from = c.saturating_sub-first.ensures in
    let within = unfinished_below c.args.rows.now c.told-rows in
    let key = get_or now.keys at 0 in
    let filtered = c.loop-at.invariant.1 in
    let is = filtered.rest at (omega arith) in
    let more = stays_here slot old.keys old.count kept within g first from at key c.loop-at-test.true c.loop-at.auto.at is c.loop-at.rows c.loop-at.word c.loop-at.invariant.0 in
    let test = more ∙ ap (λ o. ltb 1 (row_said o).lacking) c.in-Some.is ∙ sym c.work.ensures.more in
    let spends = c.work.ensures.row ∙ ap (λ o. spent true (row_said o)) (sym c.in-Some.is) in (
      ran_more slot old.keys old.count kept within g first from at key c.loop-at-test.true c.loop-at.auto.at is c.loop-at.rows c.loop-at.word c.loop-at.invariant.0 (Some c.work.new.self) spends,
      filtered_more old.keys now.keys c.loop-at.place at key (stays slot g) filtered refl old.count (c.loop-at.place + c.from-place.result) old.sorted c.loop-at-test.true (ap (λ b. c.loop-at.place + b) (c.from-place.ensures ∙ ap bool_byte (sym test))),
      c.loop-at.invariant.2,
      omega (arith, c.loop-at.invariant.3),
    )

pub returns-clause-word : goal.returns-clause-word
returns-clause-word c =
    let slot = slots c.args.rows.now in
    let end : c.args.self.now.count - c.loop-at.at ≡ 0 = omega (arith, c.loop-at-test.false) in
    word_behind slot c.args.given c.loop-at.rows c.loop-at.word (subst (λ m. Ran slot c.args.given m c.loop-at.rows c.loop-at.word) end c.loop-at.invariant.0)

pub returns-clause-kept : goal.returns-clause-kept
returns-clause-kept c =
    let slot = slots c.args.rows.now in
    let old = c.args.self.now in
    let now = c.loop-at.self in
    let g = c.args.given in
    let end : c.loop-at.at ≡ old.count = omega (arith, c.loop-at.auto, c.loop-at-test.false, c.saturating_sub-first.ensures) in
    let ran = subst (λ m. Ran slot g m c.loop-at.rows c.loop-at.word) (omega (arith, end)) c.loop-at.invariant.0 in
    let filtered = subst (λ n. Filtered old.keys now.keys c.loop-at.place n (stays slot g)) end c.loop-at.invariant.1 in
    kept_behind slot g c.loop-at.rows c.loop-at.word ran old.keys now.keys old.count c.loop-at.place c.requires filtered
