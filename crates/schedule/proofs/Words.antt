-- The bits of a word that is the sum of the powers of two at the places where a test passes. Assumes nothing.
use Rattle.std.proofs.Common.{◌≡◌, ℕ, zero, suc, ◌+◌, ◌-◌, ◌*◌, ◌/◌, ◌%◌, ◌^◌, ◌<◌, ◌≤◌, Bool, true, false, cond, ◌⊎◌, refl, ap, ◌∙◌, inl, inr, arith}
use native.Mathlib.Nat.{pow-succ', add-mul-div_left, add-div_right, div-eq_of_lt, pow-le-pow_right}
use Rattle.std.proofs.lemmas.Nat.{pow_pos, pow-add}
use Rattle.std.proofs.lemmas.Bool.{cases_order}
use Rattle.schedule.specs.Counting.{sum}
use Rattle.schedule.specs.Order.{names}

lt_step : (b : Bool) (w p : ℕ) → w < p → w + cond b p 0 < 2 * p
lt_step true w p h = omega arith
lt_step false w p h = omega arith

pub bits_lt : (n : ℕ) (b : ℕ → Bool) → sum n (λ k. cond (b k) (2 ^ k) 0) < 2 ^ n
unfolding sum
bits_lt zero b = omega arith
bits_lt (suc n) b = rw (pow-succ' 2 n) (lt_step (b n) (sum n (λ k. cond (b k) (2 ^ k) 0)) (2 ^ n) (bits_lt n b))

-- a power of two above bit i leaves that bit
high_step : (b : Bool) (w i n : ℕ) → i < n → (w + cond b (2 ^ n) 0) / 2 ^ i % 2 ≡ w / 2 ^ i % 2
high_step false w i n h = ap (λ x. x / 2 ^ i % 2) (omega arith)
high_step true w i n h =
    let split : 2 ^ n ≡ 2 ^ i * (2 * 2 ^ (n - suc i)) = ap (λ x. 2 ^ x) (omega arith) ∙ pow-add 2 i (suc (n - suc i)) ∙ ap (λ x. 2 ^ i * x) (pow-succ' 2 (n - suc i)) in
    rw (split, add-mul-div_left w (2 * 2 ^ (n - suc i)) (pow_pos i)) (omega arith)

same_step : (b : Bool) (w n : ℕ) → w < 2 ^ n → (w + cond b (2 ^ n) 0) / 2 ^ n % 2 ≡ cond b 1 0
same_step true w n h = rw (add-div_right w (pow_pos n), div-eq_of_lt h) refl
same_step false w n h = ap (λ x. x / 2 ^ n % 2) (omega arith) ∙ ap (λ x. x % 2) (div-eq_of_lt h)

pub names_above : (n : ℕ) (b : ℕ → Bool) (i : ℕ) → n ≤ i → names (sum n (λ k. cond (b k) (2 ^ k) 0)) i ≡ 0
names_above n b i h = ap (λ x. x % 2) (div-eq_of_lt (omega (arith, bits_lt n b, pow-le-pow_right {n = 2} (omega arith) h)))

pub names_at : (n : ℕ) (b : ℕ → Bool) (i : ℕ) → i < n → names (sum n (λ k. cond (b k) (2 ^ k) 0)) i ≡ cond (b i) 1 0
unfolding sum
names_at zero b i h = absurd (omega arith)
names_at (suc n) b i h = go (cases_order i n) (names_at n b i)
  where
    go : (i ≡ n) ⊎ ((i < n) ⊎ (n < i)) → (i < n → names (sum n (λ k. cond (b k) (2 ^ k) 0)) i ≡ cond (b i) 1 0) → names (sum n (λ k. cond (b k) (2 ^ k) 0) + cond (b n) (2 ^ n) 0) i ≡ cond (b i) 1 0
    go (inl e) ih = rw e (same_step (b n) _ n (bits_lt n b))
    go (inr (inl l)) ih = high_step (b n) _ i n l ∙ ih l
    go (inr (inr l)) ih = absurd (omega arith)
