-- Least windows that are kept in places. Assumes nothing.
use Rattle.std.specs.Prelude.{◌≡◌, ℕ, suc, ◌<◌, List, [], Some, None, Option, slice_index, slice_index_or}

-- the place of the windows of s ticks, if they are kept
abbrev pub place_of : List (Option ℕ) → ℕ → Option ℕ
place_of place s = slice_index_or place s None

-- what is kept in place p for level j + 1
abbrev pub kept_at : List (List ℕ) → ℕ → ℕ → ℕ
kept_at least p j = slice_index (slice_index_or least p []) j

-- wherever a length s has a place, what is kept there is what the table says of it, level by level
abbrev pub Keeps : (ℕ → ℕ → ℕ) → List (Option ℕ) → List (List ℕ) → Type 0
Keeps table place least = (s p j : ℕ) → place_of place s ≡ Some p → j < 8 → kept_at least p j ≡ table (suc j) s
