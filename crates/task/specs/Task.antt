-- What a task card says. Assumes nothing.
use Rattle.std.specs.Prelude.{ℕ, Bool, ◌&&◌, nat_le}
use Rattle.task.specs.declared.card.Card.{Card}

-- a task's number, run time, period and deadline
pub record Task : Type 0 where
  pub id : ℕ
  pub run : ℕ
  pub period : ℕ
  pub deadline : ℕ

-- what a card says
abbrev pub task_of : Card → Task
task_of c = record { id = c.id; run = c.run; period = c.period; deadline = c.deadline }

-- the times that a card may have: 1 ≤ c ≤ d ≤ t ≤ 4,096
abbrev pub timely : ℕ → ℕ → ℕ → Bool
timely run period deadline = nat_le 1 run && (nat_le run deadline && (nat_le deadline period && nat_le period 4096))
