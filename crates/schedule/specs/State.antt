-- What a dispatcher knows. Assumes nothing.
use Rattle.std.specs.Prelude.{ℕ, false, cond, None, Option, ◌==◌}
use Rattle.schedule.specs.Row.{TaskRow}

-- the row of the coming ticks, the level table, the clock, and the rows of its tasks, of which those below 32 count
pub record State : Type 0 where
  pub row : ℕ → ℕ
  pub table : ℕ → ℕ → ℕ
  pub clock : ℕ
  pub slot : ℕ → TaskRow

-- a row that holds no task
abbrev pub blank : TaskRow
blank = record { held = false; run = 0; period = 0; deadline = 0; latest = None; lacking = 0 }

-- a dispatcher as it is made over a supply
abbrev pub fresh : (ℕ → ℕ) → (ℕ → ℕ → ℕ) → State
fresh row table = record { row = row; table = table; clock = 0; slot = λ _. blank }

-- a row with its card, another latest release and other ticks lacking
abbrev pub with_job : TaskRow → Option ℕ → ℕ → TaskRow
with_job r latest lacking = record { held = r.held; run = r.run; period = r.period; deadline = r.deadline; latest = latest; lacking = lacking }

-- the rows with r at place k
abbrev pub put : (ℕ → TaskRow) → ℕ → TaskRow → ℕ → TaskRow
put slot k r i = cond (i == k) r (slot i)
