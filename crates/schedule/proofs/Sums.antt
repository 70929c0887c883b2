-- Sums over the numbers below n, compared term by term. Assumes nothing.
use Rattle.std.proofs.Common.{◌≡◌, ℕ, zero, suc, ◌+◌, ◌<◌, ◌≤◌, cond, eqb, ◌⊎◌, refl, inl, inr, add-one, arith}
use Rattle.std.proofs.lemmas.Bool.{cases_lt, cases_eq, ne_eqb, eq-eqb}
use Rattle.schedule.specs.Counting.{sum}

pub sum_none : (f : ℕ → ℕ) → sum 0 f ≡ 0
unfolding sum
sum_none f = refl

pub sum_more : (n : ℕ) (f : ℕ → ℕ) → sum (n + 1) f ≡ sum n f + f n
unfolding sum
sum_more n f = rw (add-one n) refl

pub sum_two : (n : ℕ) (f g h l : ℕ → ℕ) → ((i : ℕ) → i < n → f i + g i ≤ h i + l i) → sum n f + sum n g ≤ sum n h + sum n l
unfolding sum
sum_two zero f g h l each = omega arith
sum_two (suc n) f g h l each =
    omega (arith, sum_two n f g h l (λ i below. each i (omega arith)), each n (omega arith))

pub sum_le : (n : ℕ) (f g : ℕ → ℕ) → ((i : ℕ) → i < n → f i ≤ g i) → sum n f ≤ sum n g
unfolding sum
sum_le zero f g each = omega arith
sum_le (suc n) f g each = omega (arith, sum_le n f g (λ i below. each i (omega arith)), each n (omega arith))

pub sum_zero : (n : ℕ) → sum n (λ _. 0) ≡ 0
unfolding sum
sum_zero zero = refl
sum_zero (suc n) = omega (arith, sum_zero n)

pub sum_lt : (n : ℕ) (f g : ℕ → ℕ) → ((i : ℕ) → i < n → f i ≤ g i) → (k : ℕ) → k < n → f k < g k → sum n f < sum n g
unfolding sum
sum_lt zero f g each k below less = absurd (omega arith)
sum_lt (suc n) f g each k below less = go (cases_eq k n) (λ h. sum_lt n f g rest k h less)
  where
    rest : (i : ℕ) → i < n → f i ≤ g i
    rest i h = each i (omega arith)

    go : (k ≡ n) ⊎ (k ≡ n → ⊥) → (k < n → sum n f < sum n g) → sum n f + f n < sum n g + g n
    go (inl e) ih = omega (arith, sum_le n f g rest, (rw e at less))
    go (inr ne) ih = omega (arith, ih (omega arith), each n (omega arith))

pub sum_same : (n : ℕ) (f g : ℕ → ℕ) → ((i : ℕ) → i < n → f i ≡ g i) → sum n f ≡ sum n g
unfolding sum
sum_same zero f g each = refl
sum_same (suc n) f g each = omega (arith, sum_same n f g (λ i below. each i (omega arith)), each n (omega arith))

-- one term is more by d, the others are the same
pub sum_grown : (n : ℕ) (f g : ℕ → ℕ) (k d : ℕ) → k < n → g k ≡ f k + d → ((i : ℕ) → i < n → (i ≡ k → ⊥) → g i ≡ f i) → sum n g ≡ sum n f + d
unfolding sum
sum_grown zero f g k d below here there = absurd (omega arith)
sum_grown (suc n) f g k d below here there = go (cases_eq k n) (λ h. sum_grown n f g k d h here (λ i l. there i (omega arith)))
  where
    go : (k ≡ n) ⊎ (k ≡ n → ⊥) → (k < n → sum n g ≡ sum n f + d) → sum n g + g n ≡ sum n f + f n + d
    go (inl e) ih = omega (arith, (rw e at here), sum_same n g f (λ i l. there i (omega arith) (λ q. omega arith)))
    go (inr ne) ih = omega (arith, ih (omega arith), there n (omega arith) (λ q. ne (omega arith)))

below_more : (n : ℕ) (f g : ℕ → ℕ) → ((i : ℕ) → i < n → f i ≤ g i) → f n ≤ g n → (i : ℕ) → i < suc n → (i ≡ n) ⊎ (i ≡ n → ⊥) → f i ≤ g i
below_more n f g a l i h (inl e) = rw e l
below_more n f g a l i h (inr ne) = a i (omega arith)

-- the terms of one sum are at most those of another, or one is not
pub below_or : (n : ℕ) (f g : ℕ → ℕ) → ((i : ℕ) → i < n → f i ≤ g i) ⊎ ((i : ℕ) × (i < n) × (g i < f i))
below_or zero f g = inl (λ i h. absurd (omega arith))
below_or (suc n) f g = go (below_or n f g) (cases_lt (g n) (f n))
  where
    go : ((i : ℕ) → i < n → f i ≤ g i) ⊎ ((i : ℕ) × (i < n) × (g i < f i)) → (g n < f n) ⊎ (f n ≤ g n) → ((i : ℕ) → i < suc n → f i ≤ g i) ⊎ ((i : ℕ) × (i < suc n) × (g i < f i))
    go (inr w) d = inr (w.0, omega (arith, w.1), w.2)
    go (inl a) (inl l) = inr (n, omega arith, l)
    go (inl a) (inr l) = inl (λ i h. below_more n f g a l i h (cases_eq i n))

none_is : (n k : ℕ) → n ≤ k → sum n (λ i. cond (eqb i k) 1 0) ≡ 0
unfolding sum
none_is zero k h = refl
none_is (suc n) k h = rw (ne_eqb n k (λ e. omega arith)) (omega (arith, none_is n k (omega arith)))

-- at most one number is k
pub sum_one : (n k : ℕ) → sum n (λ i. cond (eqb i k) 1 0) ≤ 1
unfolding sum
sum_one zero k = omega arith
sum_one (suc n) k = go (cases_eq n k) (sum_one n k)
  where
    go : (n ≡ k) ⊎ (n ≡ k → ⊥) → sum n (λ i. cond (eqb i k) 1 0) ≤ 1 → sum n (λ i. cond (eqb i k) 1 0) + cond (eqb n k) 1 0 ≤ 1
    go (inl e) ih = rw (none_is n k (omega arith), eq-eqb n k e) (omega arith)
    go (inr ne) ih = rw (ne_eqb n k ne) (omega arith)
