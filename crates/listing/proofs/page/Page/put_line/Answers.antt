use Rattle.std.proofs.Common.{[], ◌∷◌, ◌++◌, map, drop, ◌+◌, sym, refl, ap, ◌∙◌}
use Rattle.listing.specs.Listing.{ending}
use Rattle.listing.specs.Pages.{bytes_of, written, fitting}
use Rattle.listing.proofs.Laying.{fitting_on, fields_more, fields_done}
use Rattle.listing.proofs.page.Page.put_line.Goals as goal

pub loop-field-init : goal.loop-field-init
loop-field-init c = refl

pub loop-field-preserved : goal.loop-field-preserved
loop-field-preserved c =
    let rest = ending (map bytes_of (drop (c.loop-field.field-index + 1) c.args.others.now)) in
    fitting_on (written c.put-in-loop-field.new.self) _ rest _ c.put-in-loop-field-2.ensures
    ∙ fitting_on (written c.loop-field.self) (44 ∷ []) _ _ c.put-in-loop-field.ensures
    ∙ ap (λ l. fitting (written c.loop-field.self ++ l)) (sym (fields_more c.args.others.now c.loop-field.field-index _ c.loop-field-test.true))
    ∙ c.loop-field.invariant

pub returns : goal.returns
returns c =
    c.put-2.ensures
    ∙ ap (λ l. fitting (written c.loop-field.self ++ l)) (sym (fields_done c.args.others.now c.loop-field.field-index c.loop-field-test.false))
    ∙ c.loop-field.invariant
    ∙ fitting_on (written c.args.self.now) (bytes_of c.args.first) _ _ c.put.ensures
