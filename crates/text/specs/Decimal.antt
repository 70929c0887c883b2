-- Decimal numbers as they are written. Assumes nothing.
use Rattle.std.specs.Prelude.{ℕ, ◌+◌, ◌-◌, ◌*◌, Bool, cond, not, ◌&&◌, ◌||◌, List, [], ◌∷◌, length, Some, None, Option, ◌==◌, nat_le, slice_index}
use Rattle.std.specs.Char.{is_ascii_digit}

-- the number that digits write behind the digits of n; none, where a byte is no digit
abbrev pub value_after : ℕ → List ℕ → Option ℕ
value_after n [] = Some n
value_after n (b ∷ bs) = cond (is_ascii_digit b) (value_after (n * 10 + (b - 48)) bs) None

-- one to width bytes, and no zero in front unless it stands alone
abbrev pub well_laid : ℕ → List ℕ → Bool
well_laid width s = nat_le 1 (length s) && (nat_le (length s) width && (length s == 1 || not (slice_index s 0 == 48)))

abbrev pub at_most : ℕ → Option ℕ → Option ℕ
at_most m None = None
at_most m (Some n) = cond (nat_le n m) (Some n) None

-- the number that s writes: one to width digits, no zero in front unless it is 0 itself, at most m; none otherwise
abbrev pub number_up_to : ℕ → ℕ → List ℕ → Option ℕ
number_up_to width m s = cond (well_laid width s) (at_most m (value_after 0 s)) None

-- one to five digits, at most 65,535
abbrev pub number : List ℕ → Option ℕ
number s = number_up_to 5 65535 s

-- one to ten digits, what fits 32 bits
abbrev pub number32 : List ℕ → Option ℕ
number32 s = number_up_to 10 4294967295 s
