use Rattle.std.proofs.Common.{◌≡◌, false, not, map, sym, ap, ◌∙◌, rules}
use Rattle.plan.specs.Rows.{has}
use Rattle.plan.specs.Lists.{tasks_of}
use Rattle.plan.proofs.Distinct.{added, distinct_with}
use Rattle.plan.proofs.cards.CardList.push.Goals as goal
use Rattle.plan.proofs.cards.CardList.push.Goals.{Else-has}

free : (c : Else-has) → has c.args.card.id (map (λ t. t.id) (tasks_of c.args.self.now)) ≡ false
free c = search rules

pub invariant_of-self : goal.invariant_of-self
invariant_of-self c = record { numbered = distinct_with c.args.self.now c.args.card (free (goal.at.invariant_of-self c).Else-has) c.push.result _ c.push.ensures.room c.push.ensures.added }

pub returns-clause-value : goal.returns-clause-value
returns-clause-value c =
    let unused = free (goal.at.returns-clause-value c).Else-has in
    c.ok.ensures.variant ∙ added c.args.self.now c.args.card unused c.push.result c.push.ensures.room ∙ sym (ap not unused)
