use Rattle.std.proofs.Common.{◌≡◌, Bool, List, map, length, sym, refl, ap, ◌∙◌, arith}
use Rattle.std.proofs.lemmas.List.{length-map}
use Rattle.plan.specs.declared.row.SlotRow.{SlotRow}
use Rattle.plan.specs.Contents.{contents}
use Rattle.plan.specs.Rows.{marks_of}
use Rattle.rack.proofs.Slotted.{sofar_none, sofar_few, row_next, sofar_more, sofar_all}
use Rattle.rack.proofs.counts.counts.Goals as goal

rows_many : (items : List SlotRow) (rows : List (List Bool)) → map marks_of items ≡ rows → length rows ≡ length items
rows_many items rows e = sym (ap length e) ∙ simp length-map

pub loop-row-init : goal.loop-row-init
loop-row-init c = (refl, λ x _. sofar_none (contents c.args.plan.now).rows x)

pub add_row-requires : goal.add_row-requires
add_row-requires c = record {
  within = c.cycle.ensures.few;
  few = λ x h. sofar_few (contents c.args.plan.now).rows c.loop-row.row-index c.loop-row.counts x (omega (arith, c.rows-row-items.ensures.few)) (c.loop-row.invariant.1 x (omega (arith, c.cycle.ensures.value)));
}

pub loop-row-preserved : goal.loop-row-preserved
loop-row-preserved c =
    let rows = (contents c.args.plan.now).rows in
    let next = row_next c.rows-row-items.result.now rows c.loop-row.row-index c.row-item.result c.rows-row-items.ensures.rows (omega arith) c.row-item.is in (
      c.add_row.array_long,
      λ x h.
          sofar_more rows c.loop-row.row-index (marks_of c.row-item.result) c.loop-row.counts c.add_row.new.counts x next (c.loop-row.invariant.1 x h) (c.add_row.ensures x (omega (arith, c.cycle.ensures.value))),
    )

pub returns : goal.returns
returns c = λ x h.
    sofar_all (contents c.args.plan.now).rows c.loop-row.row-index c.loop-row.counts x (omega (arith, rows_many _ _ c.rows-row-items.ensures.rows)) (c.loop-row.invariant.1 x h)
