-- The least number that passes. Assumes nothing.
use Rattle.std.proofs.Common.{◌≡◌, ℕ, zero, suc, ◌<◌, ◌≤◌, Bool, true, false, cond, ◌⊎◌, refl, inl, inr, arith}
use Rattle.std.proofs.lemmas.Bool.{both_ways, cases_order}
use Rattle.schedule.specs.Counting.{least}

le_step : (b : Bool) (m n : ℕ) → m ≤ n → cond b 0 (suc m) ≤ suc n
le_step true m n h = omega arith
le_step false m n h = omega arith

pub least_le : (n : ℕ) (p : ℕ → Bool) → least n p ≤ n
unfolding least
least_le zero p = omega arith
least_le (suc n) p = le_step (p 0) (least n (λ x. p (suc x))) n (least_le n (λ x. p (suc x)))

passes_step : (p : ℕ → Bool) (b : Bool) (m n : ℕ) → p 0 ≡ b → (m < n → p (suc m) ≡ true) → cond b 0 (suc m) < suc n → p (cond b 0 (suc m)) ≡ true
passes_step p true m n e ih h = e
passes_step p false m n e ih h = ih (omega arith)

pub least_passes : (n : ℕ) (p : ℕ → Bool) → least n p < n → p (least n p) ≡ true
unfolding least
least_passes zero p h = absurd (omega arith)
least_passes (suc n) p h = passes_step p (p 0) (least n (λ x. p (suc x))) n refl (least_passes n (λ x. p (suc x))) h

below_step : (p : ℕ → Bool) (b : Bool) (m i : ℕ) → p 0 ≡ b → ((i : ℕ) → i < m → p (suc i) ≡ false) → i < cond b 0 (suc m) → p i ≡ false
below_step p true m i e ih h = absurd (omega arith)
below_step p false m zero e ih h = e
below_step p false m (suc i) e ih h = ih i (omega arith)

pub least_below : (n : ℕ) (p : ℕ → Bool) (i : ℕ) → i < least n p → p i ≡ false
unfolding least
least_below zero p i h = absurd (omega arith)
least_below (suc n) p i h = below_step p (p 0) (least n (λ x. p (suc x))) i refl (least_below n (λ x. p (suc x))) h

-- a number below which none passes, and which passes or is n
pub least_is : (n : ℕ) (p : ℕ → Bool) (x : ℕ) → x ≤ n → (x < n → p x ≡ true) → ((i : ℕ) → i < x → p i ≡ false) → least n p ≡ x
least_is n p x le here below = go (cases_order (least n p) x)
  where
    go : (least n p ≡ x) ⊎ ((least n p < x) ⊎ (x < least n p)) → least n p ≡ x
    go (inl e) = e
    go (inr (inl l)) = absurd (both_ways (p (least n p)) (below (least n p) l) (least_passes n p (omega arith)))
    go (inr (inr l)) = absurd (both_ways (p x) (least_below n p x l) (here (omega (arith, least_le n p))))
