use Rattle.std.proofs.Common.{eqb, map, ap, ◌∙◌, rules, tests}
use Rattle.std.proofs.lemmas.Iterator.{YieldsList-from_slice}
use Rattle.std.proofs.lemmas.Iterator.Search.{any_from_yields_List}
use Rattle.plan.specs.Rows.{has}
use Rattle.plan.proofs.Distinct.{any_number}
use Rattle.plan.proofs.cards.CardList.has.Goals as goal

pub returns : goal.returns
returns c =
    any_from_yields_List (λ k. eqb c.args.id k.id) _ _ c.any.result c.any.ensures.ran (YieldsList-from_slice _ c.iter.ensures.rest) (λ x b q k. search (rules, tests))
    ∙ any_number c.args.id c.cards.result.now
    ∙ ap (λ ts. has c.args.id (map (λ k. k.id) ts)) c.cards.ensures.value
