-- The lines of tasks, one after another. Assumes nothing.
use Rattle.std.proofs.Common.{◌≡◌, ℕ, ◌+◌, ◌<◌, ◌≤◌, List, [], ◌++◌, map, length, get_or, drop, sym, ap, ◌∙◌}
use Rattle.std.proofs.lemmas.List.{at_drop_more, at_drop_all}
use Rattle.schedule.specs.Calls.{answer, after}
use Rattle.schedule.specs.State.{State}
use Rattle.task.specs.Task.{task_of}
use Rattle.task.specs.declared.card.Card.{Card}
use Rattle.listing.specs.Listing.{admission, task_line, task_lines}

pub lines_more : (s : State) (cards : List Card) (n : ℕ) (card : Card) → n < length cards → card ≡ get_or cards n card → task_lines s (map task_of (drop n cards)) ≡ task_line (task_of card).id (answer s (admission (task_of card))) ++ task_lines (after s (admission (task_of card))) (map task_of (drop (n + 1) cards))
unfolding task_lines
lines_more s cards n card inside is =
    at_drop_more (λ l. task_lines s (map task_of l)) cards n card inside
    ∙ ap (λ c. task_line (task_of c).id (answer s (admission (task_of c))) ++ task_lines (after s (admission (task_of c))) (map task_of (drop (n + 1) cards))) (sym is)

pub lines_done : (s : State) (cards : List Card) (n : ℕ) → length cards ≤ n → task_lines s (map task_of (drop n cards)) ≡ []
unfolding task_lines
lines_done s cards n past = at_drop_all (λ l. task_lines s (map task_of l)) cards n past
