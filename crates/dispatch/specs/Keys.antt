-- The keys by which unfinished jobs are kept in the order in which they run. Assumes nothing.
use Rattle.std.specs.Prelude.{◌≡◌, ℕ, zero, suc, ◌+◌, ◌*◌, ◌%◌, ◌<◌, ◌≤◌, Bool, false, ◌&&◌, ◌||◌, List, length, ◌==◌, slice_index}
use Rattle.schedule.specs.Row.{TaskRow}
use Rattle.schedule.specs.Order.{unfinished, due}

-- the key of the job in row k: by the clock at which it has to be done, and among equals by number
abbrev pub key_of : ℕ → TaskRow → ℕ
key_of k r = due r * 32 + k

-- the number of the task whose job has a key
abbrev pub id_of : ℕ → ℕ
id_of key = key % 32

-- the row's job is unfinished and has this key
abbrev pub keyed : ℕ → TaskRow → ℕ → Bool
keyed k r key = unfinished r && key_of k r == key

-- an unfinished job has this key
unfoldable pub waits : (ℕ → TaskRow) → ℕ → Bool
waits slot key = keyed (id_of key) (slot (id_of key)) key

-- one of the first n keys is this one
unfoldable pub among : List ℕ → ℕ → ℕ → Bool
among keys zero key = false
among keys (suc n) key = slice_index keys n == key || among keys n key

-- the first count of 32 keys are in order, the soonest last
pub record Sorted (keys : List ℕ) (count : ℕ) : Type 0 where
  pub room : length keys ≡ 32
  pub few : count ≤ 32
  pub ordered : (p q : ℕ) → (p < q) × (q < count) → slice_index keys q < slice_index keys p

-- the first count keys are those of the unfinished jobs
abbrev pub Kept : (ℕ → TaskRow) → List ℕ → ℕ → Type 0
Kept slot keys count = (x : ℕ) → among keys count x ≡ waits slot x
