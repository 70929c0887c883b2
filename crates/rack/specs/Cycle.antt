-- Rows that repeat themselves, and their least windows. Assumes nothing.
use Rattle.std.specs.Prelude.{◌≡◌, ℕ, ◌+◌, ◌*◌, ◌%◌, min, List, slice_index}
use Rattle.supply.specs.Window.{window}
use Rattle.rack.specs.Least.{least, Least}

abbrev pub Periodic : ℕ → (ℕ → ℕ) → Type 0
Periodic h row = (x : ℕ) → row (x + h) ≡ row x

-- the least window of n ticks, of those that start in the first h ticks
abbrev pub least_window : ℕ → (ℕ → ℕ) → ℕ → ℕ → ℕ
least_window j row h n = least (λ x. window j row x n) h

-- the first h of the given numbers, over and over; one above eight is read as eight
abbrev pub repeated : List ℕ → ℕ → ℕ → ℕ
repeated given h x = min (slice_index given (x % h)) 8

-- the same, begun at tick x of the cycle
abbrev pub repeated_from : List ℕ → ℕ → ℕ → ℕ → ℕ
repeated_from given h x y = repeated given h (x + y)

-- the level table of the numbers that are given over and over, from a search over one cycle
abbrev pub cycle_table : List ℕ → ℕ → ℕ → ℕ → ℕ
cycle_table given h j n = least_window j (repeated given h) h n

-- m is the least that any n ticks of the endless row contain, each tick cut to at most j
abbrev pub LeastWindow : List ℕ → ℕ → ℕ → ℕ → ℕ → Type 0
LeastWindow given h j n m = Least (λ x. window j (repeated given h) x n) m

-- m is what the table says of whole cycles and of the ticks that are left
abbrev pub ByCycles : List ℕ → ℕ → ℕ → ℕ → ℕ → Type 0
ByCycles given h j n m = (q s : ℕ) → n ≡ q * h + s → m ≡ q * cycle_table given h j h + cycle_table given h j s
