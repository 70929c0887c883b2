-- Bytes that are cut at a byte. Assumes nothing.
use Rattle.std.specs.Prelude.{◌≡◌, ℕ, ◌+◌, cond, not, List, [], ◌∷◌, length, Some, None, Option, ◌==◌}
use Rattle.std.specs.Borrow.{Bor}
use Rattle.std.specs.List.{prefix_len}

-- how many bytes stand before the first b; all of them, where there is none
abbrev pub before : ℕ → List ℕ → ℕ
before b s = prefix_len (λ x. not (x == b)) s

-- x in front of the first part
abbrev pub onto : ℕ → List (List ℕ) → List (List ℕ)
onto x [] = []
onto x (p ∷ ps) = (x ∷ p) ∷ ps

-- the parts that the bytes b cut s into: one more than there are bytes b, and an empty one wherever nothing stands between two cuts
unfoldable pub parts : ℕ → List ℕ → List (List ℕ)
parts b [] = [] ∷ []
parts b (x ∷ xs) = cond (x == b) ([] ∷ parts b xs) (onto x (parts b xs))

-- where s is cut at its first b: the first of its parts, and the bytes that hold the others; none, where it is all one part
abbrev pub Cut : ℕ → List ℕ → Option (Bor (List ℕ) × Bor (List ℕ)) → Type 0
Cut b s None = parts b s ≡ s ∷ []
Cut b s (Some p) = (parts b s ≡ p.0.now ∷ parts b p.1.now) × (length p.0.now + length p.1.now + 1 ≡ length s)
