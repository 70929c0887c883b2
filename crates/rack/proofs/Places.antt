-- What is kept in places stays right as one more place is taken. Assumes nothing.
use Rattle.std.proofs.Common.{◌≡◌, ℕ, suc, ◌+◌, ◌<◌, List, length, get_or, set, replicate, None, Option, sym, ap, ◌∙◌, inl, inr, add-one, arith}
use lib.ListN.{length-replicate}
use Rattle.std.proofs.lemmas.List.{get_or-set_same, get_or-set_other, get_or-replicate, get_or_past}
use Rattle.std.proofs.lemmas.Bool.{cases_eq, cases_lt}

-- one level more is found
pub more_levels : (table : ℕ → ℕ) (least : List ℕ) (j v : ℕ) → j < length least → ((i : ℕ) → i < j → get_or least i 0 ≡ table (suc i)) → v ≡ table (j + 1) → (i : ℕ) → i < j + 1 → get_or (set least j v) i 0 ≡ table (suc i)
more_levels table least j v room so e i lt = elim (cases_eq i j) [
  | inl here ↦
      ap (λ k. get_or (set least j v) k 0) here ∙ get_or-set_same least j v 0 room ∙ e ∙ ap table (add-one j) ∙ ap (λ k. table (suc k)) (sym here)
  | inr other ↦ get_or-set_other least j i v 0 other ∙ so i (omega arith)
]

-- no place is taken in the beginning
pub none_placed : (n s : ℕ) → ◌≡◌ {A = Option ℕ} (get_or (replicate n None) s None) None
none_placed n s = elim (cases_lt s n) [
  | inl lt ↦ get_or-replicate n s None None lt
  | inr past ↦ get_or_past (replicate n None) s None (omega (arith, length-replicate {A = Option ℕ} n None))
]
