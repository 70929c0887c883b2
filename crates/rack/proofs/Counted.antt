-- Numbers to which a function of the place is added, one place after another. Assumes nothing.
use Rattle.std.proofs.Common.{◌≡◌, ℕ, ◌+◌, ◌<◌, ◌≤◌, List, length, get_or, set, replicate, refl, ap, ◌∙◌, inl, inr, arith, length-set}
use lib.ListN.{length-replicate}
use Rattle.std.proofs.lemmas.List.{get_or-set_same, get_or-set_other, get_or-replicate, get_or_past}
use Rattle.std.proofs.lemmas.Bool.{cases_eq, cases_lt}

pub zeros : (n i : ℕ) → ◌≡◌ {A = ℕ} (get_or (replicate n 0) i 0) 0
zeros n i = elim (cases_lt i n) [ inl h ↦ get_or-replicate n i 0 0 h | inr h ↦ get_or_past (replicate n 0) i 0 (omega (arith, length-replicate {A = ℕ} n 0)) ]

-- f is added at the places from a up to x, and nothing elsewhere
pub record Added (before now : List ℕ) (f : ℕ → ℕ) (a x : ℕ) : Type 0 where
  pub under : (k : ℕ) → k < a → get_or now k 0 ≡ get_or before k 0
  pub done : (k : ℕ) → a ≤ k → k < x → get_or now k 0 ≡ get_or before k 0 + f k
  pub left : (k : ℕ) → x ≤ k → get_or now k 0 ≡ get_or before k 0
  pub long : length now ≡ length before

pub added_none : (l : List ℕ) (f : ℕ → ℕ) (a : ℕ) → Added l l f a a
added_none l f a = record { under = λ k h. refl; done = λ k le h. absurd (omega arith); left = λ k h. refl; long = refl }

pub added_more : (before now : List ℕ) (f : ℕ → ℕ) (a x v : ℕ) → Added before now f a x → a ≤ x → x < length now → v ≡ f x → Added before (set now x (get_or now x 0 + v)) f a (x + 1)
added_more before now f a x v so le inside e = record {
  under = λ k h. get_or-set_other now x k (get_or now x 0 + v) 0 (λ e. omega arith) ∙ so.under k h;
  done =
      λ k from h. elim (cases_eq k x) [
        | inl here ↦ omega (arith, ap (λ i. get_or (set now x (get_or now x 0 + v)) i 0) here, get_or-set_same now x (get_or now x 0 + v) 0 inside, ap (λ i. get_or before i 0) here, ap f here, so.left x (omega arith))
        | inr other ↦ get_or-set_other now x k (get_or now x 0 + v) 0 other ∙ so.done k from (omega arith)
      ];
  left = λ k h. get_or-set_other now x k (get_or now x 0 + v) 0 (λ e. omega arith) ∙ so.left k (omega arith);
  long = length-set now x (get_or now x 0 + v) ∙ so.long;
}

-- what is added up to x, and from there up to y
pub added_on : (before mid now : List ℕ) (f : ℕ → ℕ) (a x y : ℕ) → a ≤ x → x ≤ y → Added before mid f a x → Added mid now f x y → Added before now f a y
added_on before mid now f a x y ax xy so on = record {
  under = λ k h. on.under k (omega arith) ∙ so.under k h;
  done =
      λ k from h. elim (cases_lt k x) [
        | inl early ↦ on.under k early ∙ so.done k from early
        | inr late ↦ omega (arith, on.done k late h, so.left k late)
      ];
  left = λ k h. on.left k h ∙ so.left k (omega arith);
  long = on.long ∙ so.long;
}
