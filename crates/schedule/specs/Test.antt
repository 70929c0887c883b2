-- The test by which a set of tasks is admitted. Assumes nothing.
use Rattle.std.specs.Prelude.{◌≡◌, ℕ, suc, ◌+◌, ◌*◌, ◌/◌, ◌%◌, ◌<◌, ◌≤◌, min, Bool, true, false, cond, not, ◌&&◌, ◌==◌, nat_le, nat_lt}
use Rattle.schedule.specs.Row.{TaskRow}
use Rattle.schedule.specs.Counting.{sum, least}

-- the work that task r can do ahead of a job of another, between that job's release and its deadline n ticks later
unfoldable pub charge : ℕ → TaskRow → ℕ
charge n r = (n / r.period) * r.run + min r.run (n % r.period)

-- f of the row at i, where it holds a task other than k; 0 elsewhere
abbrev pub others : (ℕ → TaskRow) → ℕ → (TaskRow → ℕ) → ℕ → ℕ
others slot k f i = cond ((slot i).held && not (i == k)) (f (slot i)) 0

-- the charges of all other tasks on k
abbrev pub load : (ℕ → TaskRow) → ℕ → ℕ
load slot k = sum 32 (others slot k (charge (slot k).deadline))

-- j processors at once are enough for k: what is sure to come before its deadline covers j times its run time and the load
unfoldable pub serves : (ℕ → ℕ → ℕ) → (ℕ → TaskRow) → ℕ → ℕ → Bool
serves table slot k j = nat_le (j * (slot k).run + load slot k) (table j (slot k).deadline)

-- a search over the levels from 1 to 8 that came to x: the level, or 0 where none was found
abbrev pub level_from : ℕ → ℕ
level_from x = cond (nat_lt x 8) (suc x) 0

-- the witness of k: the least level from 1 to 8 that serves it; 0, where none does
unfoldable pub witness : (ℕ → ℕ → ℕ) → (ℕ → TaskRow) → ℕ → ℕ
witness table slot k = level_from (least 8 (λ x. serves table slot k (suc x)))

-- k is held and has no witness
abbrev pub unserved : (ℕ → ℕ → ℕ) → (ℕ → TaskRow) → ℕ → Bool
unserved table slot k = (slot k).held && witness table slot k == 0

-- the lowest-numbered task without a witness; 32, where every task that is held has one
unfoldable pub first_unserved : (ℕ → ℕ → ℕ) → (ℕ → TaskRow) → ℕ
first_unserved table slot = least 32 (unserved table slot)

-- every task that is held has a witness
abbrev pub passes : (ℕ → ℕ → ℕ) → (ℕ → TaskRow) → Bool
passes table slot = first_unserved table slot == 32

-- j is from 1 to 8, it serves k, and no level below it does
abbrev pub LeastLevel : (ℕ → ℕ → ℕ) → (ℕ → TaskRow) → ℕ → ℕ → Type 0
LeastLevel table slot k j = (1 ≤ j) × (j ≤ 8) × (serves table slot k j ≡ true) × ((i : ℕ) → 1 ≤ i → i < j → serves table slot k i ≡ false)

-- no level from 1 to 8 serves k
abbrev pub NoLevelServes : (ℕ → ℕ → ℕ) → (ℕ → TaskRow) → ℕ → Type 0
NoLevelServes table slot k = (j : ℕ) → 1 ≤ j → j ≤ 8 → serves table slot k j ≡ false

-- what the test finds, for every table and all rows: the witness is the least level that serves, and 0 only where none does; the
-- task that is named is held and no level serves it, while each held task below it has a least level; where none is named, every held
-- task has one
pub record TestMeans (table : ℕ → ℕ → ℕ) (slot : ℕ → TaskRow) : Type 0 where
  pub found : (k : ℕ) → 0 < witness table slot k → LeastLevel table slot k (witness table slot k)
  pub none : (k : ℕ) → witness table slot k ≡ 0 → NoLevelServes table slot k
  pub named : first_unserved table slot < 32 → ((slot (first_unserved table slot)).held ≡ true) × NoLevelServes table slot (first_unserved table slot)
  pub lower : (k : ℕ) → k < first_unserved table slot → (slot k).held ≡ true → LeastLevel table slot k (witness table slot k)

abbrev pub TestLaw : Type 0
TestLaw = (table : ℕ → ℕ → ℕ) (slot : ℕ → TaskRow) → TestMeans table slot
