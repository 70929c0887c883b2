-- The times by which jobs have to be done, as they are compared to choose those that run. Assumes nothing.
use Rattle.std.specs.Prelude.{ℕ, ◌<◌, ◌≤◌, cond, List, slice_index}
use Rattle.schedule.specs.Row.{TaskRow}
use Rattle.schedule.specs.Order.{unfinished, due}

-- later than every time by which a job has to be done
abbrev pub never : ℕ
never = 18446744073709551615

-- the time by which a row's job has to be done; never, where it has no unfinished job
abbrev pub due_time : TaskRow → ℕ
due_time r = cond (unfinished r) (due r) never

-- no time comes before that at place k, and those in front of k come after it
pub record Soonest (times : List ℕ) (k : ℕ) : Type 0 where
  pub within : k < 32
  pub soonest : (i : ℕ) → i < 32 → slice_index times k ≤ slice_index times i
  pub first : (i : ℕ) → i < k → slice_index times k < slice_index times i
