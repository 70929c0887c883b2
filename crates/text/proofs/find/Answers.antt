use Rattle.std.proofs.Common.{◌≡◌, cond, eqb, ltb, length, Some, None, rules, tests, ◌∙◌}
use Rattle.std.proofs.lemmas.Iterator.{YieldsList-from_slice}
use Rattle.std.proofs.lemmas.Iterator.Search.{position_from_yields_List}
use Rattle.text.specs.Bytes.{before}
use Rattle.text.proofs.Parts.{before_or_all}
use Rattle.text.proofs.find.Goals as goal

pub returns : goal.returns
returns c =
    let found : c.position.result ≡ cond (ltb (before c.args.b c.args.s.now) (length c.args.s.now)) (Some (before c.args.b c.args.s.now)) None = position_from_yields_List (λ x. eqb x c.args.b) _ _ c.position.result c.position.ensures.ran (YieldsList-from_slice _ c.iter.ensures.rest) (λ x b q k. search (rules, tests)) in
    c.unwrap_or.ensures ∙ before_or_all c.args.b c.args.s.now c.position.result found
