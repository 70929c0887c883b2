-- The greatest of finitely many numbers. Assumes nothing.
use Rattle.std.specs.Prelude.{◌≡◌, ℕ, zero, suc, ◌<◌, ◌≤◌, max, refl}
use Rattle.std.proofs.Math.Decide.{dec_le}
use Rattle.std.proofs.Common.{arith}
use Rattle.supply.specs.Supplies.{greatest, Greatest}

pub greatest_suc : (f : ℕ → ℕ) (n : ℕ) → greatest f (suc n) ≡ max (greatest f n) (f n)
unfolding greatest
greatest_suc f n = refl

pub greatest_le : (f : ℕ → ℕ) (n m : ℕ) → ((i : ℕ) → i < n → f i ≤ m) → greatest f n ≤ m
unfolding greatest
greatest_le f zero m h = omega arith
greatest_le f (suc n) m h = omega (arith, greatest_le f n m (λ i lt. h i (omega arith)), h n (omega arith))

pub le_greatest : (f : ℕ → ℕ) (n i : ℕ) → i < n → f i ≤ greatest f n
unfolding greatest
le_greatest f zero i h = absurd (omega arith)
le_greatest f (suc n) i h = elim (dec_le (suc i) n) [
  | yes lt ↦ omega (arith, le_greatest f n i lt)
  | no ge ↦ let e : i ≡ n = omega arith in rw e (omega arith)
]

greatest_met : (f : ℕ → ℕ) (j : ℕ) → (i : ℕ) × (i ≤ j) × (greatest f (suc j) ≡ f i)
unfolding greatest
greatest_met f zero = (0, omega arith, omega arith)
greatest_met f (suc j) =
    let (i, le, e) = greatest_met f j in
    elim (dec_le (greatest f (suc j)) (f (suc j))) [
      | yes lt ↦ (suc j, omega arith, omega arith)
      | no ge ↦ (i, omega arith, omega (arith, e))
    ]

pub greatest_is : (f : ℕ → ℕ) (j : ℕ) → Greatest f j (greatest f (suc j))
greatest_is f j = (λ i le. le_greatest f (suc j) i (omega arith), greatest_met f j)
