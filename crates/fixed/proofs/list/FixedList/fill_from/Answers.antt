use Rattle.std.proofs.Common.{◌++◌, take, drop, ◌+◌, sym, ap, ◌∙◌, arith}
use Rattle.std.proofs.lemmas.List.{length-take}
use Rattle.fixed.specs.Listed.{listed}
use Rattle.fixed.proofs.Filling.{one_more, no_more}
use Rattle.fixed.proofs.list.FixedList.fill_from.Goals as goal

pub loop-item-preserved : goal.loop-item-preserved
loop-item-preserved g c =
    ap (λ l. take g.row.N (l ++ drop (c.loop-item.item-index + 1) c.args.more.now)) c.in-Ok.ensures.added
    ∙ one_more g.row.N (listed c.loop-item.self) c.args.more.now c.loop-item.item-index c.item-item.result c.loop-item-test.true c.item-item.is
    ∙ c.loop-item.invariant

pub returns-after-loop-item : goal.returns-after-loop-item
returns-after-loop-item g c =
    sym (no_more g.row.N (listed c.loop-item.self) c.args.more.now c.loop-item.item-index (simp length-take (omega arith)) c.loop-item-test.false)
    ∙ c.loop-item.invariant
