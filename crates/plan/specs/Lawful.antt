-- What every plan holds. Assumes nothing.
use Rattle.std.specs.Prelude.{◌≡◌, ℕ, ◌<◌, ◌≤◌, true, List, map, length, Ok}
use Rattle.std.specs.List.{AllByRecursion}
use Rattle.plan.specs.Reading.{Contents, reading}
use Rattle.plan.specs.Rows.{cycle_of, distinct}
use Rattle.task.specs.Task.{timely}

-- one to eight rows of one to 64 marks, with a cycle of at most 512, and tasks whose numbers are below 32 and stand once, with the times of a card
pub record Lawful (c : Contents) : Type 0 where
  pub some : 1 ≤ length c.rows
  pub few : length c.rows ≤ 8
  pub marked : AllByRecursion (λ marks. (1 ≤ length marks) × (length marks ≤ 64)) c.rows
  pub cycle : cycle_of (map length c.rows) ≤ 512
  pub cards : AllByRecursion (λ t. (t.id < 32) × (timely t.run t.period t.deadline ≡ true)) c.tasks
  pub once : distinct (map (λ t. t.id) c.tasks) ≡ true

-- whatever passes the questions is lawful
abbrev pub ReadingLaw : Type 0
ReadingLaw = (text : List ℕ) (c : Contents) → reading text ≡ Ok c → Lawful c
