use Rattle.std.proofs.Common.{◌≡◌, ℕ, ◌<◌, ◌≤◌, Bool, List, map, length, get_or, sym, ap, ◌∙◌, subst, zero-add, arith}
use Rattle.std.proofs.lemmas.List.{length-map, length-take}
use Rattle.plan.specs.Contents.{contents}
use Rattle.plan.specs.Rows.{LeastCommon, cycle_of}
use Rattle.rack.specs.Cycle.{repeated}
use Rattle.rack.specs.Slots.{slot_row}
use Rattle.rack.proofs.Slotted.{given_is, table_is, table_least}
use Rattle.rack.proofs.slots.SlotRack.new.Goals as goal

pub returns : goal.returns
returns c =
    let rows : List (List Bool) = (contents c.args.plan.now).rows in
    let given = c.loop-card.levels.given in
    let h = c.loop-card.levels.cycle in
    let few : length rows ≤ 8 = simp (length-map, length-take) (omega arith) in
    let same : h ≡ c.cycle.result = c.loop-card.invariant.1 ∙ c.new-levels.ensures.cycle in
    let cycle : h ≡ cycle_of (map length rows) = same ∙ c.cycle.ensures.value in
    let common : LeastCommon (map length rows) h = subst (LeastCommon (map length rows)) (sym same) c.cycle.ensures.least in
    let counted : (x : ℕ) → x < h → get_or given x 0 ≡ slot_row rows x = λ x l. ap (λ s. get_or s x 0) (c.loop-card.invariant.0 ∙ c.new-levels.ensures.given) ∙ c.counts.ensures x (omega (arith, cycle)) in
    record {
      row = λ x. ap (repeated given h) (zero-add x) ∙ given_is rows given h few cycle common counted x;
      table = table_is rows given h few cycle common counted;
      least = table_least rows given h few cycle common counted;
    }
