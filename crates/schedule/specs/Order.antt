-- Which jobs run in a tick. Assumes nothing.
use Rattle.std.specs.Prelude.{◌≡◌, ℕ, ◌+◌, ◌-◌, ◌/◌, ◌%◌, ◌^◌, ◌<◌, ◌≤◌, Bool, true, false, cond, ◌&&◌, ◌||◌, ◌==◌, nat_lt}
use Rattle.std.specs.Option.{unwrap_or}
use Rattle.schedule.specs.Row.{TaskRow}
use Rattle.schedule.specs.Counting.{sum}
use Rattle.schedule.specs.State.{with_job}

-- the task's latest job lacks ticks
abbrev pub unfinished : TaskRow → Bool
unfinished r = r.held && nat_lt 0 r.lacking

-- the clock at which the latest job was released
abbrev pub released_at : TaskRow → ℕ
released_at r = unwrap_or r.latest 0

-- the clock at which the latest job has to be done
abbrev pub due : TaskRow → ℕ
due r = released_at r + r.deadline

-- the job of i is ranked before that of k: by deadline, and among equals by number
unfoldable pub ahead : (ℕ → TaskRow) → ℕ → ℕ → Bool
ahead slot i k = nat_lt (due (slot i)) (due (slot k)) || (due (slot i) == due (slot k) && nat_lt i k)

-- how many unfinished jobs are ranked before that of k
unfoldable pub rank : (ℕ → TaskRow) → ℕ → ℕ
rank slot k = sum 32 (λ i. cond (unfinished (slot i) && ahead slot i k) 1 0)

-- k runs on one of g processors
abbrev pub runs : (ℕ → TaskRow) → ℕ → ℕ → Bool
runs slot g k = unfinished (slot k) && nat_lt (rank slot k) g

-- the word of those that run on g processors: bit k stands for task k
unfoldable pub word : (ℕ → TaskRow) → ℕ → ℕ
word slot g = sum 32 (λ k. cond (runs slot g k) (2 ^ k) 0)

-- 1, where the word names task id; else 0
abbrev pub names : ℕ → ℕ → ℕ
names word id = word / 2 ^ id % 2

-- the row behind a tick in which its task ran, or did not
abbrev pub spent : Bool → TaskRow → TaskRow
spent ran r = with_job r r.latest (r.lacking - cond ran 1 0)

-- what a tick does with g processors: no more than g jobs run; where an unfinished job is left out, g do, and each of them is ranked
-- before it; and the word names those that run
pub record OrderMeans (slot : ℕ → TaskRow) (g : ℕ) : Type 0 where
  pub few : sum 32 (λ i. cond (runs slot g i) 1 0) ≤ g
  pub full : (k : ℕ) → k < 32 → unfinished (slot k) ≡ true → runs slot g k ≡ false → sum 32 (λ i. cond (runs slot g i) 1 0) ≡ g
  pub first : (i k : ℕ) → i < 32 → k < 32 → runs slot g i ≡ true → unfinished (slot k) ≡ true → runs slot g k ≡ false → ahead slot i k ≡ true
  pub named : (k : ℕ) → k < 32 → names (word slot g) k ≡ cond (runs slot g k) 1 0

abbrev pub OrderLaw : Type 0
OrderLaw = (slot : ℕ → TaskRow) (g : ℕ) → OrderMeans slot g
