use Rattle.std.proofs.Common.{[], ◌∷◌, ◌++◌, length, take, sym, ap, ◌∙◌}
use Rattle.plan.specs.Rows.{first_from, cycle_of, periods_of}
use Rattle.plan.proofs.table.SlotTable.idle.Goals as goal

pub invariant_of-result-clause-repeats : goal.invariant_of-result-clause-repeats
unfolding first_from
invariant_of-result-clause-repeats c =
    sym (ap (λ rows. cycle_of (periods_of rows)) (c.fill_from.ensures ∙ ap (λ l. take 8 (l ++ c.idle-2.result ∷ [])) c.filled_with-rows.ensures)
    ∙ ap (λ m. cycle_of (length m ∷ [])) c.idle-2.ensures)
