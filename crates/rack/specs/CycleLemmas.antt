-- Windows of rows that repeat themselves. Assumes nothing.
use Rattle.std.specs.Prelude.{◌≡◌, ℕ, zero, suc, ◌+◌, ◌-◌, ◌*◌, ◌/◌, ◌%◌, ◌<◌, ◌≤◌, min, max, List, slice_index}
use Rattle.std.proofs.Math.Path.{refl, ap}
use Rattle.std.proofs.Common.{sym, ◌∙◌, add_assoc, add-zero, zero-add, add-suc, suc-mul, zero-mul, div-add-mod', mod-lt, mod-eq_of_lt}
use Rattle.std.proofs.Math.Nat.{mod-add-div', mod-add-mod, mod_self, add-mod_right}
use native.Mathlib.Omega.{arith}
use Rattle.supply.specs.Window.{window, Windows}
use Rattle.supply.specs.Windows.{window_cap}
use Rattle.rack.specs.Least.{Least}
use Rattle.rack.specs.Cycle.{repeated, repeated_from, Periodic, least_window, cycle_table, LeastWindow, ByCycles}
use Rattle.rack.specs.LeastLemmas.{least_below, least_met, least_is, least_more, least_next}

-- a window of two parts
pub window_add : (j : ℕ) (row : ℕ → ℕ) (x m n : ℕ) → window j row x (m + n) ≡ window j row x m + window j row (x + m) n
unfolding window
window_add j row x m zero = rw (add-zero m) (omega arith)
window_add j row x m (suc n) =
    rw (add-suc m n) (rw (add_assoc x m n) (omega (arith, window_add j row x m n)))

pub window_none : (j : ℕ) (row : ℕ → ℕ) (x : ℕ) → window j row x 0 ≡ 0
unfolding window
window_none j row x = refl

-- a shorter window from the same start
pub window_short : (j : ℕ) (row : ℕ → ℕ) (x m n : ℕ) → m ≤ n → window j row x m ≤ window j row x n
window_short j row x m n le =
    let e : m + (n - m) ≡ n = omega arith in
    omega (arith, ap (window j row x) e, window_add j row x m (n - m))

pub window_level_0 : (row : ℕ → ℕ) (x n : ℕ) → window 0 row x n ≡ 0
unfolding window
window_level_0 row x zero = refl
window_level_0 row x (suc n) = omega (arith, window_level_0 row x n)

-- the window from a on, by running sums
pub window_from : (j : ℕ) (row : ℕ → ℕ) (a b : ℕ) → window j row 0 (a + b) ≡ window j row 0 a + window j row a b
window_from j row a b = rw (zero-add a) at (window_add j row 0 a b)

-- a window by the running sums a and b at its ends
pub window_between : (j : ℕ) (row : ℕ → ℕ) (x s a b : ℕ) → a ≡ window j row 0 (x + s) → b ≡ window j row 0 x → (b ≤ a) × (a - b ≡ window j row x s)
window_between j row x s a b ea eb =
    let split = window_from j row x s in
    (omega arith, omega arith)

pub level_0 : (row : ℕ → ℕ) (h n : ℕ) → 0 < h → least_window 0 row h n ≡ 0
level_0 row h n pos =
    let (x, lt, e) = least_met (λ x. window 0 row x n) h pos in
    e ∙ window_level_0 row x n

module _ (j h : ℕ) (row : ℕ → ℕ) (round : Periodic h row) where
  -- one cycle on, the windows are the same
  pub window_next : (x n : ℕ) → window j row (x + h) n ≡ window j row x n
  unfolding window
  window_next x zero = refl
  window_next x (suc n) =
      let e : x + h + n ≡ x + n + h = omega arith in
      omega (arith, window_next x n, ap (λ y. min j (row y)) e, ap (min j) (round (x + n)))

  pub window_later : (q x n : ℕ) → window j row (x + q * h) n ≡ window j row x n
  window_later zero x n = ap (λ y. window j row y n) (omega (arith, zero-mul h))
  window_later (suc q) x n =
      let e : x + suc q * h ≡ x + q * h + h = omega (arith, suc-mul q h) in
      ap (λ y. window j row y n) e ∙ window_next (x + q * h) n ∙ window_later q x n

  -- every start has a start in the first cycle with the same windows
  pub window_first : (x n : ℕ) → window j row x n ≡ window j row (x % h) n
  window_first x n =
      sym (ap (λ y. window j row y n) (mod-add-div' x h)) ∙ window_later (x / h) (x % h) n

  -- a whole cycle gives the same from every start
  pub window_whole : (x : ℕ) → window j row x h ≡ window j row 0 h
  window_whole zero = refl
  window_whole (suc x) =
      let e : 1 + h ≡ h + 1 = omega arith in
      let one : x + 1 ≡ suc x = omega arith in
      omega (
        arith,
        window_whole x,
        window_next x 1,
        window_add j row x 1 h,
        window_add j row x h 1,
        ap (window j row x) e,
        ap (λ y. window j row y h) one,
      )

  -- q whole cycles and s more ticks
  pub window_cycles : (q x s : ℕ) → window j row x (q * h + s) ≡ q * window j row 0 h + window j row x s
  window_cycles zero x s = simp (zero-mul, zero-add)
  window_cycles (suc q) x s =
      let e : suc q * h + s ≡ h + (q * h + s) = omega (arith, suc-mul q h) in
      omega (
        arith,
        ap (window j row x) e,
        window_add j row x h (q * h + s),
        window_whole x,
        window_next x (q * h + s),
        window_cycles q x s,
        suc-mul q (window j row 0 h),
      )

  -- a window that begins where one of the rest of a cycle ends is a whole cycle without that
  pub window_after : (x s rest : ℕ) → rest + s ≡ h → (window j row x rest ≤ window j row 0 h) × (window j row (rest + x) s ≡ window j row 0 h - window j row x rest)
  window_after x s rest e =
      let on : x + rest ≡ rest + x = omega arith in
      let split = window_add j row x rest s in
      let whole = ap (window j row x) e ∙ window_whole x in
      let moved = ap (λ y. window j row y s) on in
      (omega arith, omega arith)

  -- one start more, at the end of the window v of the rest; m is the greatest of these so far
  pub least_after : (l m v x s rest : ℕ) → rest + s ≡ h → 0 < rest → m ≤ window j row 0 h → v ≡ window j row x rest → min l (window j row 0 h - m) ≡ least_window j row (rest + x) s → (max m v ≤ window j row 0 h) × (min l (window j row 0 h - max m v) ≡ least_window j row (rest + (x + 1)) s)
  least_after l m v x s rest e pos le ev so =
      let after = window_after x s rest e in
      let next = least_next (λ y. window j row y s) (rest + x) _ _ (omega arith) refl refl in
      let on = ap (λ n. least_window j row n s) (add_assoc rest x 1) in
      (omega (arith, after.0), omega (arith, after.0, after.1, next, on))

  -- no window of up to a cycle is greater than a whole cycle
  pub least_none : (s rest : ℕ) → rest + s ≡ h → 0 < rest → min (least_window j row rest s) (window j row 0 h - 0) ≡ least_window j row (rest + 0) s
  least_none s rest e pos =
      rw add-zero (omega (arith, least_below (λ y. window j row y s) rest 0 pos, window_short j row 0 s h (omega arith)))

  -- the starts of one cycle are enough to find the least window of all
  pub one_cycle : (n : ℕ) → 0 < h → Least (λ x. window j row x n) (least_window j row h n)
  one_cycle n pos =
      let (x, lt, e) = least_met (λ x. window j row x n) h pos in (
        λ y. omega (arith, window_first y n, least_below (λ x. window j row x n) h (y % h) (mod-lt y pos)),
        (x, e),
      )

  pub whole_least : 0 < h → least_window j row h h ≡ window j row 0 h
  whole_least pos =
      least_is (λ x. window j row x h) h (window j row 0 h) (λ x _. omega (arith, window_whole x)) (0, pos, refl)

  pub cycles_least : (q s : ℕ) → 0 < h → least_window j row h (q * h + s) ≡ q * window j row 0 h + least_window j row h s
  cycles_least q s pos =
      least_more (q * window j row 0 h) h (λ x. window j row x s) (λ x. window j row x (q * h + s)) pos (λ x. window_cycles q x s)

  pub whole_cycles : (q s : ℕ) → 0 < h → least_window j row h (q * h + s) ≡ q * least_window j row h h + least_window j row h s
  whole_cycles q s pos = rw (whole_least pos) (cycles_least q s pos)

  -- a level's number for n ticks, from the sum a of the cycle and the least window b of what is left
  pub level_value : (n a b : ℕ) → 0 < h → a ≡ window j row 0 h → b ≡ least_window j row h (n % h) → n / h * a + b ≡ least_window j row h n
  level_value n a b pos ea eb =
      rw (ea, eb) (sym (cycles_least (n / h) (n % h) pos) ∙ ap (least_window j row h) (div-add-mod' n h))

  pub level_small : (n : ℕ) → 0 < h → j ≤ 8 → least_window j row h n ≤ 8 * n
  level_small n pos small =
      omega (arith, (one_cycle n pos).0 0, window_cap j 8 row 0 n (λ y. omega arith))

pub repeated_round : (given : List ℕ) (h : ℕ) → Periodic h (repeated given h)
repeated_round given h x = ap (λ y. min (slice_index given y) 8) (add-mod_right x h)

pub answered : (given : List ℕ) (h j n r : ℕ) → 0 < h → r ≡ cycle_table given h j n → record { value : r ≡ cycle_table given h j n; least : LeastWindow given h j n r; cycles : ByCycles given h j n r }
answered given h j n r pos e = record {
  value = e;
  least = rw e (one_cycle j h (repeated given h) (repeated_round given h) n pos);
  cycles = λ q s cut. e ∙ ap (cycle_table given h j) cut ∙ whole_cycles j h (repeated given h) (repeated_round given h) q s pos;
}

-- a window of a row that is begun at tick t
window_begun : (j : ℕ) (row : ℕ → ℕ) (t x n : ℕ) → window j (λ y. row (t + y)) x n ≡ window j row (t + x) n
unfolding window
window_begun j row t x zero = refl
window_begun j row t x (suc n) =
    omega (arith, window_begun j row t x n, ap (λ y. min j (row y)) (add_assoc t x n))

pub windows_repeated : (given : List ℕ) (h t : ℕ) → 0 < h → Windows (repeated_from given h t) (cycle_table given h)
windows_repeated given h t pos j n x _ _ =
    omega (arith, window_begun j (repeated given h) t x n, (one_cycle j h (repeated given h) (repeated_round given h) n pos).0 (t + x))

-- a tick later
repeated_next : (given : List ℕ) (h t x : ℕ) → repeated_from given h ((t + 1) % h) x ≡ repeated_from given h t (suc x)
repeated_next given h t x =
    let e : t + 1 + x ≡ t + suc x = omega arith in
    ap (λ y. min (slice_index given y) 8) (mod-add-mod (t + 1) h x ∙ ap (λ y. y % h) e)

pub repeated_on : (given : List ℕ) (h t : ℕ) → t + 1 < h → (x : ℕ) → repeated_from given h (t + 1) x ≡ repeated_from given h t (suc x)
repeated_on given h t lt x = ap (λ y. repeated_from given h y x) (sym (mod-eq_of_lt lt)) ∙ repeated_next given h t x

-- the last tick of the cycle is followed by its first
pub repeated_again : (given : List ℕ) (h t : ℕ) → t + 1 ≡ h → (x : ℕ) → repeated_from given h 0 x ≡ repeated_from given h t (suc x)
repeated_again given h t e x =
    let round : (t + 1) % h ≡ 0 = ap (λ y. y % h) e ∙ mod_self h in
    ap (λ y. repeated_from given h y x) (sym round) ∙ repeated_next given h t x

-- a row of at most eight that repeats itself every h ticks is what its first h numbers give over and over
pub repeated_is : (given : List ℕ) (h : ℕ) (row : ℕ → ℕ) → 0 < h → Periodic h row → ((x : ℕ) → row x ≤ 8) → ((k : ℕ) → k < h → slice_index given k ≡ row k) → (x : ℕ) → repeated given h x ≡ row x
repeated_is given h row pos round small first x =
    omega (arith, first (x % h) (mod-lt x pos), small (x % h), row_first x)
  where
    row_later : (q y : ℕ) → row (y + q * h) ≡ row y
    row_later zero y = ap row (omega (arith, zero-mul h))
    row_later (suc q) y =
        let e : y + suc q * h ≡ y + q * h + h = omega (arith, suc-mul q h) in
        ap row e ∙ round (y + q * h) ∙ row_later q y

    row_first : (y : ℕ) → row y ≡ row (y % h)
    row_first y = sym (ap row (mod-add-div' y h)) ∙ row_later (y / h) (y % h)
