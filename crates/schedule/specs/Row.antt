-- A task's row. Assumes nothing.
use Rattle.std.specs.Prelude.{ℕ, Bool, Option}

-- a row holds a task or none; with a task, its card, the clock of its latest release since its admission, and the ticks that its job
-- still lacks
pub record TaskRow : Type 0 where
  pub held : Bool
  pub run : ℕ
  pub period : ℕ
  pub deadline : ℕ
  pub latest : Option ℕ
  pub lacking : ℕ
