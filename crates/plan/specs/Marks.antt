-- The marks of a row as the text writes them. Assumes nothing.
use Rattle.std.specs.Prelude.{ℕ, Bool, true, ◌&&◌, ◌||◌, List, [], ◌∷◌, map, ◌==◌, nat_eq}

-- each byte is the digit 0 or 1
abbrev pub all_marks : List ℕ → Bool
all_marks [] = true
all_marks (b ∷ bs) = (b == 48 || b == 49) && all_marks bs

-- the digit 1 gives a processor
abbrev pub given : List ℕ → List Bool
given bytes = map (λ b. nat_eq b 49) bytes
