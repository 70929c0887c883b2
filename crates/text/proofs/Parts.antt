-- The parts of a text, from its first cut on. Assumes nothing.
use Rattle.std.proofs.Common.{◌≡◌, ℕ, suc, ◌+◌, ◌<◌, ◌≤◌, Bool, true, false, cond, not, eqb, ltb, List, [], ◌∷◌, length, take, drop, Option, Some, None, refl, ap, add-one, one-add, arith}
use Rattle.std.specs.Option.{unwrap_or}
use Rattle.std.proofs.lemmas.Bool.{cond_both}
use Rattle.std.proofs.lemmas.Bool.Decides.{nat_tests}
use Rattle.std.proofs.lemmas.List.{length-take}
use Rattle.std.proofs.lemmas.List.Folds.{length-prefix_len}
use Rattle.text.specs.Bytes.{before, onto, parts}

none_step : (t : Bool) (x : ℕ) (xs : List ℕ) (n : ℕ) (ps : List (List ℕ)) → suc (length xs) ≤ cond (not t) (1 + n) 0 → (length xs ≤ n → ps ≡ xs ∷ []) → cond t ([] ∷ ps) (onto x ps) ≡ (x ∷ xs) ∷ []
none_step true x xs n ps h ih = absurd (omega arith)
none_step false x xs n ps h ih = ap (onto x) (ih (omega arith))

pub parts_uncut : (b : ℕ) (s : List ℕ) → length s ≤ before b s → parts b s ≡ s ∷ []
unfolding parts
parts_uncut b [] h = refl
parts_uncut b (x ∷ xs) h = none_step (eqb x b) x xs (before b xs) (parts b xs) h (parts_uncut b xs)

some_step : (t : Bool) (b x : ℕ) (xs : List ℕ) (n : ℕ) → cond (not t) (1 + n) 0 < suc (length xs) → (n < length xs → parts b xs ≡ take n xs ∷ parts b (drop (n + 1) xs)) → cond t ([] ∷ parts b xs) (onto x (parts b xs)) ≡ take (cond (not t) (1 + n) 0) (x ∷ xs) ∷ parts b (drop (cond (not t) (1 + n) 0 + 1) (x ∷ xs))
some_step true b x xs n h ih = refl
some_step false b x xs n h ih =
    rw (one-add n, add-one (suc n)) (rw (add-one n) at (ap (onto x) (ih (omega arith))))

pub parts_cut : (b : ℕ) (s : List ℕ) → before b s < length s → parts b s ≡ take (before b s) s ∷ parts b (drop (before b s + 1) s)
unfolding parts
parts_cut b [] h = absurd (omega arith)
parts_cut b (x ∷ xs) h = some_step (eqb x b) b x xs (before b xs) h (parts_cut b xs)

onto_some : (x : ℕ) (ps : List (List ℕ)) → 1 ≤ length ps → 1 ≤ length (onto x ps)
onto_some x [] h = h
onto_some x (p ∷ ps) h = omega arith

-- there is at least one part
pub parts_some : (b : ℕ) (s : List ℕ) → 1 ≤ length (parts b s)
unfolding parts
parts_some b [] = omega arith
parts_some b (x ∷ xs) =
    cond_both (eqb x b) ([] ∷ parts b xs) (onto x (parts b xs)) (λ ps. 1 ≤ length ps) (λ _. omega arith) (λ _. onto_some x (parts b xs) (parts_some b xs))

-- ---- what a search for the first b finds

pub before_or_all : (b : ℕ) (s : List ℕ) (found : Option ℕ) → found ≡ cond (ltb (before b s) (length s)) (Some (before b s)) None → unwrap_or found (length s) ≡ before b s
before_or_all b s found e =
    let few : before b s ≤ length s = omega (arith, length-prefix_len (λ x. not (eqb x b)) s, length-take (before b s) s) in
    grind (arith, nat_tests)
