use Rattle.std.proofs.Common.{ℕ, ◌+◌, unwrap_or, refl, ap, ◌∙◌, add-one, arith, rules}
use Rattle.std.proofs.lemmas.Iterator.{YieldsList-from_range, YieldsList-from_map}
use Rattle.std.proofs.lemmas.Iterator.Consumers.{YieldsList-at, reduce_from_yields_List}
use Rattle.std.proofs.lemmas.List.Folds.{max_of_map}
use Rattle.std.specs.List.{range_with_len}
use Rattle.supply.specs.Supplies.{greatest, parted}
use Rattle.supply.specs.Windows.{parted_all}
use Rattle.supply.proofs.Folded.{folded}
use Rattle.supply.proofs.joined.JoinedSupply.level.Goals as goal

pub returns : goal.returns
returns g c =
    let first = g.P.Supply.table c.args.self.now.first in
    let second = g.Q.Supply.table c.args.self.now.second in
    let h : ℕ → ℕ = parted first second c.min-j.result c.min-n.result in
    let most =
    reduce_from_yields_List _ c.map.result c.max.result c.max.ensures.ran
    (YieldsList-from_map _ h (YieldsList-at c.map.ensures.source (YieldsList-from_range 0 (c.min-j.result + 1) (c.min-j.result + 1) refl (omega arith))) c.map.ensures.closure (λ x r q k. search rules)) in
    parted_all first second c.args.j c.args.n c.min-j.result c.min-n.result c.min-j.result c.unwrap_or.result c.min-j.ensures c.min-n.ensures refl
    (c.unwrap_or.ensures ∙ ap (λ o. unwrap_or o 0) most ∙ max_of_map h (range_with_len 0 (c.min-j.result + 1)) ∙ folded h (c.min-j.result + 1) ∙ ap (greatest h) (add-one c.min-j.result))
