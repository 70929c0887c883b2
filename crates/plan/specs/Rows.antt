-- Rows of the slot table, their cycle, and numbers that stand once. Assumes nothing.
use Rattle.std.specs.Prelude.{◌≡◌, ℕ, zero, suc, ◌%◌, ◌<◌, ◌≤◌, Bool, true, false, cond, not, ◌&&◌, ◌||◌, ◌⊎◌, List, [], ◌∷◌, map, length, ◌==◌}
use Rattle.std.specs.List.{AllByRecursion}
use Rattle.fixed.specs.Listed.{listed}
use Rattle.plan.specs.declared.row.SlotRow.{SlotRow}
use Rattle.task.specs.declared.card.Card.{Card}

-- a row by its marks: its period is how many there are
abbrev pub marks_of : SlotRow → List Bool
marks_of r = listed r.marks

-- the first of h, h + 1, .. that passes, of n that are tried; h + n, where none does
unfoldable pub first_from : (ℕ → Bool) → ℕ → ℕ → ℕ
first_from p h zero = h
first_from p h (suc n) = cond (p h) h (first_from p (suc h) n)

-- every period divides h
abbrev pub divided_by : List ℕ → ℕ → Bool
divided_by [] h = true
divided_by (p ∷ ps) h = h % p == 0 && divided_by ps h

-- the least number from 1 to 512 that every period divides, and 513 where there is none
abbrev pub cycle_of : List ℕ → ℕ
cycle_of periods = first_from (divided_by periods) 1 512

-- h is the least common multiple of the periods: every one divides it, and of the numbers from 1 on it is the least that every one divides
abbrev pub LeastCommon : List ℕ → ℕ → Type 0
LeastCommon periods h = (1 ≤ h) × AllByRecursion (λ p. h % p ≡ 0) periods × ((k : ℕ) → 1 ≤ k → AllByRecursion (λ p. k % p ≡ 0) periods → h ≤ k)

-- the cycle is the least common multiple wherever that is at most 512, and elsewhere 513
abbrev pub CycleLaw : Type 0
CycleLaw = (periods : List ℕ) → ((cycle_of periods ≤ 512) × LeastCommon periods (cycle_of periods)) ⊎ ((cycle_of periods ≡ 513) × ((k : ℕ) → 1 ≤ k → AllByRecursion (λ p. k % p ≡ 0) periods → 512 < k))

abbrev pub has : ℕ → List ℕ → Bool
has n [] = false
has n (x ∷ xs) = n == x || has n xs

-- no number stands twice
abbrev pub distinct : List ℕ → Bool
distinct [] = true
distinct (x ∷ xs) = not (has x xs) && distinct xs

abbrev pub periods_of : List SlotRow → List ℕ
periods_of rows = map (λ r. length (marks_of r)) rows

-- the numbers of the cards
abbrev pub ids_in : List Card → List ℕ
ids_in cards = map (λ c. c.id) cards
