-- Windows of rows that are made from other rows. Assumes nothing.
use Rattle.std.specs.Prelude.{◌≡◌, ℕ, zero, suc, ◌+◌, ◌-◌, ◌*◌, ◌≤◌, min}
use Rattle.std.proofs.Common.{sym, ap, mul-suc, mul-zero, arith}
use Rattle.std.proofs.Math.Nat.{min-eq_left}
use Rattle.supply.specs.Supplies.{narrowed_row, joined_row, joined_table, parted, greatest, Greatest}
use Rattle.supply.specs.Window.{window, Windows}
use Rattle.supply.specs.Greatest.{greatest_le, greatest_is}

-- where two rows are compared tick by tick, so are their windows
pub window_le : (j k : ℕ) (f g : ℕ → ℕ) (x n : ℕ) → ((y : ℕ) → min j (f y) ≤ min k (g y)) → window j f x n ≤ window k g x n
unfolding window
window_le j k f g x zero h = omega arith
window_le j k f g x (suc n) h = omega (arith, window_le j k f g x n h, h (x + n))

-- a window is at most what a row of that bound gives
pub window_cap : (j m : ℕ) (f : ℕ → ℕ) (x n : ℕ) → ((y : ℕ) → min j (f y) ≤ m) → window j f x n ≤ m * n
unfolding window
window_cap j m f x zero h = omega arith
window_cap j m f x (suc n) h = rw mul-suc (omega (arith, window_cap j m f x n h, h (x + n)))

pub window_steady : (j m x n : ℕ) → window j (λ _. m) x n ≡ min j m * n
unfolding window
window_steady j m x zero = sym (mul-zero (min j m))
window_steady j m x (suc n) = rw mul-suc (ap (λ s. s + min j m) (window_steady j m x n))

-- a window of a narrowed row is a window below, cut at the lesser of level and width
pub window_narrowed : (w j : ℕ) (row : ℕ → ℕ) (x n : ℕ) → window (min j w) row x n ≤ window j (narrowed_row w row) x n
window_narrowed w j row x n = window_le (min j w) j row (narrowed_row w row) x n (λ y. omega arith)

-- however a level is parted, the windows of two rows fit into the window of both together
pub window_joined : (j i : ℕ) (a b : ℕ → ℕ) (x n : ℕ) → i ≤ j → j ≤ 8 → window i a x n + window (j - i) b x n ≤ window j (joined_row a b) x n
unfolding window
window_joined j i a b x zero le small = omega arith
window_joined j i a b x (suc n) le small = omega (arith, window_joined j i a b x n le small)

-- what a level question can answer at most
pub level_cap : (row : ℕ → ℕ) (table : ℕ → ℕ → ℕ) → Windows row table → (j n : ℕ) → table (min j 8) (min n 8192) ≤ 65536
level_cap row table law j n =
    omega (arith, law (min j 8) (min n 8192) 0 (omega arith) (omega arith), window_cap (min j 8) 8 row 0 (min n 8192) (λ y. omega arith))

pub windows_joined : (a b : ℕ → ℕ) (s t : ℕ → ℕ → ℕ) → Windows a s → Windows b t → Windows (joined_row a b) (joined_table s t)
windows_joined a b s t p q j n x hj hn =
    greatest_le (parted s t j n) (suc j) _
    (λ i le. omega (arith, p i n x (omega arith) hn, q (j - i) n x (omega arith) hn, window_joined j i a b x n (omega arith) hj))

-- a level and a length within their limits are read as they stand
pub within_limits : (t : ℕ → ℕ → ℕ) (j n : ℕ) → j ≤ 8 → n ≤ 8192 → t (min j 8) (min n 8192) ≡ t j n
within_limits t j n hj hn = rw (min-eq_left hj, min-eq_left hn)

-- every way to part j has been tried
pub parted_all : (s t : ℕ → ℕ → ℕ) (j n j' n' i r : ℕ) → j' ≡ min j 8 → n' ≡ min n 8192 → i ≡ j' → r ≡ greatest (parted s t j' n') (suc i) → record { value : r ≡ joined_table s t (min j 8) (min n 8192); best : Greatest (parted s t (min j 8) (min n 8192)) (min j 8) r }
parted_all s t j n j' n' i r ej en ei er =
    let e = simp (ei, ej, en) at er in
    record { value = e; best = rw e (greatest_is _ (min j 8)) }
