-- The greatest of a function's first numbers, as a fold over them. Assumes nothing.
use Rattle.std.proofs.Common.{◌≡◌, ℕ, zero, suc, ◌+◌, max, ap, ◌∙◌, [], ◌∷◌, ◌++◌, refl, zero-add, arith}
use Rattle.std.proofs.lemmas.List.Sums.{fold-append}
use Rattle.std.specs.List.{fold, range_with_len}
use Rattle.supply.specs.Supplies.{greatest}

upto : (n a : ℕ) → range_with_len a (suc n) ≡ range_with_len a n ++ (a + n) ∷ []
upto zero a = ap (λ x. x ∷ []) (omega arith)
upto (suc n) a = ap (λ xs. a ∷ xs) (upto n (a + 1) ∙ ap (λ x. range_with_len (a + 1) n ++ x ∷ []) (omega arith))

pub folded : (f : ℕ → ℕ) (n : ℕ) → fold (λ a x. max a (f x)) 0 (range_with_len 0 n) ≡ greatest f n
unfolding greatest
folded f zero = refl
folded f (suc n) =
    ap (fold (λ a x. max a (f x)) 0) (upto n 0)
    ∙ fold-append (λ a x. max a (f x)) 0 (range_with_len 0 n) ((0 + n) ∷ [])
    ∙ (λ i. max (folded f n i) (f (zero-add n i)))
