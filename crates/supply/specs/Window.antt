-- What a stretch of ticks contains. Assumes nothing.
use Rattle.std.specs.Prelude.{ℕ, zero, suc, ◌+◌, ◌≤◌, min}

-- the numbers of the row from x on, n of them, each cut to at most j, added up
unfoldable pub window : ℕ → (ℕ → ℕ) → ℕ → ℕ → ℕ
window j row x zero = 0
window j row x (suc n) = window j row x n + min j (row (x + n))

-- no tick gives more than eight processors
abbrev pub Bounded : (ℕ → ℕ) → Type 0
Bounded row = (x : ℕ) → row x ≤ 8

-- the window law: from every start in the row, the next n numbers, each cut to at most j, add up to at least the table's answer for j and n
abbrev pub Windows : (ℕ → ℕ) → (ℕ → ℕ → ℕ) → Type 0
Windows row table = (j n x : ℕ) → j ≤ 8 → n ≤ 8192 → table j n ≤ window j row x n
