-- The least of finitely many numbers. Assumes nothing.
use Rattle.std.specs.Prelude.{◌≡◌, ℕ, zero, suc, ◌+◌, ◌<◌, ◌≤◌, min, refl}
use Rattle.std.proofs.Math.Decide.{dec_le}
use Rattle.std.proofs.Common.{add-one, arith}
use Rattle.rack.specs.Least.{least}

pub least_suc : (f : ℕ → ℕ) (n : ℕ) → 0 < n → least f (suc n) ≡ min (least f n) (f n)
unfolding least
least_suc f zero h = absurd (omega arith)
least_suc f (suc n) h = refl

pub least_one : (f : ℕ → ℕ) → least f 1 ≡ f 0
unfolding least
least_one f = refl

-- one number more
pub least_next : (f : ℕ → ℕ) (n so y : ℕ) → 0 < n → so ≡ least f n → y ≡ f n → min so y ≡ least f (n + 1)
least_next f n so y pos e ey = rw add-one (omega (arith, least_suc f n pos))

-- no more than any of them
pub least_below : (f : ℕ → ℕ) (n x : ℕ) → x < n → least f n ≤ f x
unfolding least
least_below f zero x h = absurd (omega arith)
least_below f (suc zero) x h = let e : x ≡ 0 = omega arith in rw e (omega arith)
least_below f (suc (suc n)) x h = elim (dec_le (suc x) (suc n)) [
  | yes lt ↦ omega (arith, least_below f (suc n) x lt)
  | no ge ↦ let e : x ≡ suc n = omega arith in rw e (omega arith)
]

-- one of them
pub least_met : (f : ℕ → ℕ) (n : ℕ) → 0 < n → (x : ℕ) × (x < n) × (least f n ≡ f x)
unfolding least
least_met f zero h = absurd (omega arith)
least_met f (suc zero) h = (0, omega arith, refl)
least_met f (suc (suc n)) h =
    let (x, lt, e) = least_met f (suc n) (omega arith) in
    elim (dec_le (f (suc n)) (least f (suc n))) [
      | yes le ↦ (suc n, omega arith, omega arith)
      | no gt ↦ (x, omega arith, omega (arith, e))
    ]

-- what is no more than any, and one of them, is the least
pub least_is : (f : ℕ → ℕ) (n m : ℕ) → ((x : ℕ) → x < n → m ≤ f x) → (x : ℕ) × (x < n) × (m ≡ f x) → least f n ≡ m
least_is f n m below (x, lt, e) =
    let (y, ly, ey) = least_met f n (omega arith) in
    omega (arith, least_below f n x lt, below y ly)

-- more numbers have no greater least one
pub least_down : (f : ℕ → ℕ) (m n : ℕ) → 0 < m → m ≤ n → least f n ≤ least f m
least_down f m n pos le =
    let (x, lt, e) = least_met f m pos in
    omega (arith, least_below f n x (omega arith))

-- numbers that are all greater by c
pub least_more : (c n : ℕ) (f g : ℕ → ℕ) → 0 < n → ((x : ℕ) → g x ≡ c + f x) → least g n ≡ c + least f n
least_more c n f g pos e =
    let (x, lt, met) = least_met f n pos in
    least_is g n (c + least f n) (λ y ly. omega (arith, e y, least_below f n y ly)) (x, lt, omega (arith, e x))
