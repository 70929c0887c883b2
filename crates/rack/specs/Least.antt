-- The least of many numbers. Assumes nothing.
use Rattle.std.specs.Prelude.{◌≡◌, ℕ, zero, suc, ◌≤◌, min}

-- the least of f 0 to f (n - 1); 0, where n is 0
unfoldable pub least : (ℕ → ℕ) → ℕ → ℕ
least f zero = 0
least f (suc zero) = f 0
least f (suc (suc n)) = min (least f (suc n)) (f (suc n))

-- m is the least of all the numbers f 0, f 1, and so on without end
abbrev pub Least : (ℕ → ℕ) → ℕ → Type 0
Least f m = ((x : ℕ) → m ≤ f x) × ((x : ℕ) × (m ≡ f x))
