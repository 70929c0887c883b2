use Rattle.std.proofs.Common.{sym, refl, ap, ◌∙◌}
use Rattle.std.proofs.lemmas.Bool.{true≢false}
use Rattle.dispatch.proofs.held.HeldTasks.new.Goals as goal

pub invariant_of-result : goal.invariant_of-result
invariant_of-result c = record { full = refl; loaded = (λ k _ held. absurd (true≢false (sym held ∙ ap (λ f. (f k).held) c.new.ensures))) }
