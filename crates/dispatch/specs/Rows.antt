-- The rows of a dispatcher's table. Assumes nothing.
use Rattle.std.specs.Prelude.{ℕ, Bool, true, cond, Some, None, Option, List, slice_index_or}
use Rattle.task.specs.Task.{Task}
use Rattle.schedule.specs.Row.{TaskRow}
use Rattle.schedule.specs.State.{blank}
use Rattle.schedule.specs.Calls.{sound, admitted}
use Rattle.dispatch.specs.declared.held_task.HeldTask.{HeldTask}

-- the row that a place of the table stands for; blank, where no task is held
abbrev pub row_said : Option HeldTask → TaskRow
row_said None = blank
row_said (Some t) = record { held = true; run = t.run; period = t.period; deadline = t.deadline; latest = t.latest; lacking = t.lacking }

-- the rows by their numbers; blank beyond them
abbrev pub slots : List (Option HeldTask) → ℕ → TaskRow
slots rows i = row_said (slice_index_or rows i None)

-- a row that holds a task has the times of a card
abbrev pub carded : TaskRow → Bool
carded r = cond r.held (sound r.run r.period r.deadline) true

-- the task in row id
abbrev pub task_at : ℕ → TaskRow → Task
task_at id r = record { id = id; run = r.run; period = r.period; deadline = r.deadline }

-- the row of a task that was just admitted by a card that says this
abbrev pub row_of : Task → TaskRow
row_of t = admitted t.run t.period t.deadline
