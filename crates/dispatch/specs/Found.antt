-- What a search found, as an option. Assumes nothing.
use Rattle.std.specs.Prelude.{ℕ, cond, Some, None, Option, ◌==◌, nat_lt}

-- a level; none, where it is 0
abbrev pub level_found : ℕ → Option ℕ
level_found j = cond (j == 0) None (Some j)

-- the number of a task; none, where it is not below 32
abbrev pub task_found : ℕ → Option ℕ
task_found k = cond (nat_lt k 32) (Some k) None
