-- What the rows of a slot table give, and what every stretch of ticks is sure to contain of it. Assumes nothing.
use Rattle.std.specs.Prelude.{ℕ, ◌%◌, Bool, false, cond, List, map, length, sum_by, slice_index_or}
use Rattle.plan.specs.Rows.{cycle_of}
use Rattle.rack.specs.Cycle.{least_window}

-- a row gives a processor in tick x exactly if its mark at x mod its period is set
abbrev pub gives : List Bool → ℕ → ℕ
gives marks x = cond (slice_index_or marks (x % length marks) false) 1 0

-- how many rows give in tick x
abbrev pub slot_row : List (List Bool) → ℕ → ℕ
slot_row rows x = sum_by (λ marks. gives marks x) rows

-- the least window of n ticks, each tick cut to at most j, over the starts of one cycle
abbrev pub slot_table : List (List Bool) → ℕ → ℕ → ℕ
slot_table rows j n = least_window j (slot_row rows) (cycle_of (map length rows)) n
