-- What the simple supplies give, and the level tables that they answer from. Assumes nothing.
use Rattle.std.specs.Prelude.{◌≡◌, ℕ, zero, suc, ◌+◌, ◌-◌, ◌*◌, ◌≤◌, min, max}

-- m processors in every tick
abbrev pub steady_row : ℕ → ℕ → ℕ
steady_row m x = m

abbrev pub steady_table : ℕ → ℕ → ℕ → ℕ
steady_table m j n = min j m * n

-- what the row gives, and no more than w in a tick
abbrev pub narrowed_row : ℕ → (ℕ → ℕ) → ℕ → ℕ
narrowed_row w row x = min w (row x)

abbrev pub narrowed_table : ℕ → (ℕ → ℕ → ℕ) → ℕ → ℕ → ℕ
narrowed_table w table j n = table (min j w) n

-- what two rows give together, and no more than eight in a tick
abbrev pub joined_row : (ℕ → ℕ) → (ℕ → ℕ) → ℕ → ℕ
joined_row first second x = min (first x + second x) 8

-- what two tables are sure of, where i of the j processors are counted on in the first and the others in the second
abbrev pub parted : (ℕ → ℕ → ℕ) → (ℕ → ℕ → ℕ) → ℕ → ℕ → ℕ → ℕ
parted first second j n i = first i n + second (j - i) n

-- the greatest of f 0 to f (n - 1); 0, where n is 0
unfoldable pub greatest : (ℕ → ℕ) → ℕ → ℕ
greatest f zero = 0
greatest f (suc n) = max (greatest f n) (f n)

-- m is the greatest of f 0 to f j
abbrev pub Greatest : (ℕ → ℕ) → ℕ → ℕ → Type 0
Greatest f j m = ((i : ℕ) → i ≤ j → f i ≤ m) × ((i : ℕ) × (i ≤ j) × (m ≡ f i))

-- the best of the ways to part j
abbrev pub joined_table : (ℕ → ℕ → ℕ) → (ℕ → ℕ → ℕ) → ℕ → ℕ → ℕ
joined_table first second j n = greatest (parted first second j n) (suc j)
