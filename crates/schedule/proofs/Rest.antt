-- What a task can still run ahead of a job of another, and that the charge covers it. Assumes nothing.
use Rattle.std.proofs.Common.{◌≡◌, ℕ, zero, suc, ◌+◌, ◌-◌, ◌*◌, ◌/◌, ◌%◌, ◌<◌, ◌≤◌, min, max, Bool, true, false, cond, leb, ◌⊎◌, Some, None, Option, refl, ap, ◌∙◌, inl, inr, mod-lt, div-lt_iff_lt-mul, mul-le-mul_left, mul-zero, div-add-mod', le-div_iff_mul-le, mul-add, div-mul-le_self, arith}
use native.Mathlib.Nat.{div-zero, add-div_right, zero-div}
use Rattle.std.proofs.lemmas.Bool.{cases_lt, le-leb, lt-leb, false≢true}
use Rattle.schedule.specs.Row.{TaskRow}
use Rattle.schedule.specs.State.{with_job}
use Rattle.schedule.specs.Test.{charge}
use Rattle.schedule.specs.Order.{released_at, due, spent}
use Rattle.schedule.specs.Calls.{released}

-- the earliest clock of a task's next release, at clock y
abbrev pub earliest : ℕ → ℕ → Option ℕ → ℕ
earliest y period None = y
earliest y period (Some at) = max y (at + period)

-- how many releases of r from clock e on, its period apart, have a deadline no later than end
abbrev pub fits : ℕ → TaskRow → ℕ → ℕ
fits end r e = (end + r.period - (e + r.deadline)) / r.period

-- what the latest job of r can still run before a job that is due at end
abbrev pub in_hand : ℕ → ℕ → TaskRow → ℕ
in_hand y end r = cond (leb (due r) end) (min r.lacking (due r - y)) 0

-- what task r can still run, from clock y on, before a job that is due at end
abbrev pub rest : ℕ → ℕ → TaskRow → ℕ
rest y end r = in_hand y end r + r.run * fits end r (earliest y r.period r.latest)

div_mono : (a b t : ℕ) → a ≤ b → a / t ≤ b / t
div_mono a b zero h = rw (div-zero a, div-zero b) (omega arith)
div_mono a b (suc t) h =
    (le-div_iff_mul-le {k = suc t} (omega arith)).1 (omega (arith, div-mul-le_self a (suc t)))

div_below : (a q t : ℕ) → 0 < t → a < suc q * t → a / t ≤ q
div_below a q t pos h = omega (arith, (div-lt_iff_lt-mul {k = t} {x = a} {y = suc q} pos).1 h)

fits_mono : (end : ℕ) (r : TaskRow) (e f : ℕ) → e ≤ f → r.run * fits end r f ≤ r.run * fits end r e
fits_mono end r e f h = mul-le-mul_left r.run (div_mono _ _ r.period (omega arith))

earliest_mono : (y z period : ℕ) (o : Option ℕ) → y ≤ z → earliest y period o ≤ earliest z period o
earliest_mono y z period None h = h
earliest_mono y z period (Some a) h = omega arith

pub now_earliest : (y period : ℕ) (o : Option ℕ) → y ≤ earliest y period o
now_earliest y period None = omega arith
now_earliest y period (Some a) = omega arith

hand_tick : (b c : Bool) (lacking till y : ℕ) → (b ≡ true → (c ≡ true) × (0 < lacking) × (y < till)) → cond c (min (lacking - cond b 1 0) (till - (y + 1))) 0 + cond b 1 0 ≤ cond c (min lacking (till - y)) 0
hand_tick true true lacking till y h = let p = h refl in omega (arith, p.1, p.2)
hand_tick true false lacking till y h = absurd (false≢true (h refl).0)
hand_tick false true lacking till y h = omega arith
hand_tick false false lacking till y h = omega arith

-- a tick takes one from what a task has in hand, if the task runs in it, and adds nothing otherwise
pub rest_tick : (b : Bool) (y end : ℕ) (r : TaskRow) → (b ≡ true → (due r ≤ end) × (0 < r.lacking) × (y < due r)) → rest (y + 1) end (spent b r) + cond b 1 0 ≤ rest y end r
rest_tick b y end r h =
    omega (
      arith,
      hand_tick b (leb (due r) end) r.lacking (due r) y (λ e. let p = h e in (le-leb _ _ p.0, p.1, p.2)),
      fits_mono end r (earliest y r.period r.latest) (earliest (y + 1) r.period r.latest) (earliest_mono y (y + 1) r.period r.latest (omega arith)),
    )

hand_falls : (b c : Bool) (lacking till y : ℕ) → cond c (min (lacking - cond b 1 0) (till - (y + 1))) 0 ≤ cond c (min lacking (till - y)) 0
hand_falls b true lacking till y = omega arith
hand_falls b false lacking till y = omega arith

pub rest_falls : (b : Bool) (y end : ℕ) (r : TaskRow) → rest (y + 1) end (spent b r) ≤ rest y end r
rest_falls b y end r =
    omega (
      arith,
      hand_falls b (leb (due r) end) r.lacking (due r) y,
      fits_mono end r (earliest y r.period r.latest) (earliest (y + 1) r.period r.latest) (earliest_mono y (y + 1) r.period r.latest (omega arith)),
    )

-- a release takes a whole run time from the releases that still fit
pub rest_released : (y end run : ℕ) (r : TaskRow) → 0 < r.period → run ≤ r.run → earliest y r.period r.latest ≡ y → rest y end (released y run r) ≤ rest y end r
rest_released y end run r pos le e = go (cases_lt end (y + r.deadline))
  where
    later : (end + r.period - (max y (y + r.period) + r.deadline)) / r.period ≡ (end - (y + r.deadline)) / r.period
    later = ap (λ x. x / r.period) (omega arith)

    go : (end < y + r.deadline) ⊎ (y + r.deadline ≤ end) → rest y end (released y run r) ≤ rest y end r
    go (inl h) = rw (e, later, lt-leb (y + r.deadline) end h) (omega (arith, mul-le-mul_left r.run (div_mono (end - (y + r.deadline)) (end + r.period - (y + r.deadline)) r.period (omega arith))))
    go (inr h) =
        let one : (end + r.period - (y + r.deadline)) / r.period ≡ (end - (y + r.deadline)) / r.period + 1 = ap (λ x. x / r.period) (omega arith) ∙ add-div_right (end - (y + r.deadline)) pos in
        rw (e, later, le-leb (y + r.deadline) end h, one, mul-add r.run ((end - (y + r.deadline)) / r.period) 1) (omega arith)

-- the numbers behind the charge: n ticks to the deadline, with q whole periods in them and s ticks over
idle_number : (c d t n x : ℕ) → 1 ≤ c → c ≤ d → d ≤ t → x + d ≤ n + t → c * (x / t) ≤ (n / t) * c + min c (n % t)
idle_number c d t n x c1 cd dt h = go (cases_lt (n % t) d)
  where
    whole : n / t * t + n % t ≡ n
    whole = div-add-mod' n t

    go : (n % t < d) ⊎ (d ≤ n % t) → c * (x / t) ≤ (n / t) * c + min c (n % t)
    go (inl l) = omega (arith, mul-le-mul_left c (div_below x (n / t) t (omega arith) (omega (arith, whole))))
    go (inr l) = omega (arith, mul-le-mul_left c (div_below x (n / t + 1) t (omega arith) (omega (arith, whole, mod-lt n {m = t} (omega arith)))))

busy_number : (c t n u lacking : ℕ) → 0 < t → lacking ≤ c → u ≤ n → min lacking u + c * ((n - u) / t) ≤ (n / t) * c + min c (n % t)
busy_number c t n u lacking pos lc un = go (cases_lt (n % t) u)
  where
    whole : n / t * t + n % t ≡ n
    whole = div-add-mod' n t

    by : (q : ℕ) → n / t ≡ q → n % t < u → min lacking u + c * ((n - u) / t) ≤ q * c + min c (n % t)
    by zero e l = absurd (omega (arith, rw e at whole))
    by (suc q) e l = omega (arith, mul-le-mul_left c (div_below (n - u) q t pos (omega (arith, rw e at whole))))

    go : (n % t < u) ⊎ (u ≤ n % t) → min lacking u + c * ((n - u) / t) ≤ (n / t) * c + min c (n % t)
    go (inl l) = by (n / t) refl l
    go (inr l) = omega (arith, mul-le-mul_left c (div_mono (n - u) n t (omega arith)))

hand_none : (b : Bool) (lacking till : ℕ) → lacking ≤ 0 → cond b (min lacking till) 0 ≡ 0
hand_none true lacking till h = omega arith
hand_none false lacking till h = refl

-- a card's numbers, and what is known of the job in hand at clock y
pub record RowSound (y : ℕ) (r : TaskRow) : Type 0 where
  pub card : r.held ≡ true → (1 ≤ r.run) × (r.run ≤ r.deadline) × (r.deadline ≤ r.period) × (r.period ≤ 4096)
  pub at_most : r.lacking ≤ r.run
  pub past : released_at r ≤ y
  pub job : 0 < r.lacking → (r.held ≡ true) × (r.latest ≡ Some (released_at r)) × (y < due r)

-- the charge is of the card alone
pub charge_card : (n : ℕ) (r : TaskRow) (latest : Option ℕ) (lacking : ℕ) → charge n (with_job r latest lacking) ≡ charge n r
unfolding charge
charge_card n r latest lacking = refl

-- the charge covers all that a task can run ahead of a job that has n ticks to its deadline
pub charge_covers : (y end n : ℕ) (r : TaskRow) → RowSound y r → r.held ≡ true → end ≤ y + n → rest y end r ≤ charge n r
unfolding charge
charge_covers y end n r sound held h = go (cases_lt 0 r.lacking)
  where
    nums : (1 ≤ r.run) × (r.run ≤ r.deadline) × (r.deadline ≤ r.period) × (r.period ≤ 4096)
    nums = sound.card held

    busy : (r.latest ≡ Some (released_at r)) → y < due r → (end < due r) ⊎ (due r ≤ end) → rest y end r ≤ (n / r.period) * r.run + min r.run (n % r.period)
    busy e later (inl less) =
        let none : fits end r (earliest y r.period r.latest) ≡ 0 = ap (λ o. fits end r (earliest y r.period o)) e ∙ ap (λ x. x / r.period) (omega (arith, nums)) ∙ zero-div r.period in
        rw (none, lt-leb (due r) end less, mul-zero r.run) (omega arith)
    busy e later (inr le) =
        let same : fits end r (earliest y r.period r.latest) ≡ (end - due r) / r.period = ap (λ o. fits end r (earliest y r.period o)) e ∙ ap (λ x. x / r.period) (omega (arith, nums)) in
        rw (same, le-leb (due r) end le)
        (omega (arith, busy_number r.run r.period n (due r - y) r.lacking (omega (arith, nums)) sound.at_most (omega arith), mul-le-mul_left r.run (div_mono (end - due r) (n - (due r - y)) r.period (omega arith))))

    go : (0 < r.lacking) ⊎ (r.lacking ≤ 0) → rest y end r ≤ (n / r.period) * r.run + min r.run (n % r.period)
    go (inl l) = let p = sound.job l in busy p.1 p.2 (cases_lt end (due r))
    go (inr l) =
        omega (
          arith,
          hand_none (leb (due r) end) r.lacking (due r - y) l,
          fits_mono end r y (earliest y r.period r.latest) (now_earliest y r.period r.latest),
          idle_number r.run r.deadline r.period n (end + r.period - (y + r.deadline)) nums.0 nums.1 nums.2 (omega (arith, nums)),
        )
