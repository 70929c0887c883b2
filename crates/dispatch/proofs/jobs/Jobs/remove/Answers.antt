use Rattle.std.proofs.Common.{◌≡◌, ◌<◌, get_or, ap, ◌∙◌, arith}
use Rattle.dispatch.proofs.Keys.{taken_holds, not_at_place, among_without}
use Rattle.dispatch.proofs.jobs.Jobs.remove.Goals as goal
use Rattle.dispatch.proofs.jobs.Jobs.remove.Goals.{else-at-self-via-then-at-self+else-self-at, else-at-self-via-else-at-self}

pub returns-then-self-at : goal.returns-then-self-at
returns-then-self-at c =
    let old = c.args.self.now in
    let keys = c.copy_within.new.self in
    let at = c.place-at.result in
    let moved = c.copy_within.ensures.by_index in
    taken_holds old.keys keys at old.count c.args.key old.sorted c.if-at-self.true c.if-self-at.true (omega (arith, c.copy_within.ensures.len, old.sorted.room)) (λ p h. moved.1 p 0 h) (λ p h l. moved.0 p 0 h (omega arith) ∙ ap (λ k. get_or old.keys k 0) (omega arith))

pub returns-else-at-self : goal.returns-else-at-self
returns-else-at-self c =
    let old = c.args.self.now in
    let at = c.place-at.result in
    let place = c.place-at.ensures in
    let other : at < old.count → get_or old.keys at 0 ≡ c.args.key → ⊥ = elim c.else-at-self.branch [
      | else-at-self-via-then-at-self+else-self-at w ↦ λ h. w.if-self-at.false
      | else-at-self-via-else-at-self w ↦ λ h e. absurd (omega (arith, w.if-at-self.false))
    ] in
    among_without old.keys old.count c.args.key (not_at_place old.keys at old.count c.args.key old.sorted place.later place.sooner other)
