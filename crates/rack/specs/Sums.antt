-- Running sums of a row. Assumes nothing.
use Rattle.std.specs.Prelude.{◌≡◌, ℕ, ◌≤◌, List, [], slice_index, slice_index_or}
use Rattle.supply.specs.Window.{window}
use Rattle.rack.specs.declared.running.LevelSums.{LevelSums}

-- at each k up to h, the sum of the row's first k numbers, each cut to at most j
abbrev pub Summed : ℕ → (ℕ → ℕ) → ℕ → List ℕ → Type 0
Summed j row h sums = (k : ℕ) → k ≤ h → slice_index sums k ≡ window j row 0 k

-- the sums of level j + 1
abbrev pub sums_at : List LevelSums → ℕ → List ℕ
sums_at levels j = (slice_index_or levels j record { sums = [] }).sums
