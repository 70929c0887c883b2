-- Items that are added one by one, as far as there is room. Assumes nothing.
use Rattle.std.proofs.Common.{◌≡◌, ℕ, ◌+◌, ◌<◌, ◌≤◌, List, [], ◌∷◌, ◌++◌, length, get_or, take, drop, sym, ap, ◌∙◌}
use Rattle.std.proofs.lemmas.List.{append_assoc, append-nil, take_all, at_drop_more, at_drop_all}

module _ {T : Type 0} (n : ℕ) (held more : List T) (i : ℕ) where
  pub one_more : (x : T) → i < length more → x ≡ get_or more i x → take n ((held ++ x ∷ []) ++ drop (i + 1) more) ≡ take n (held ++ drop i more)
  one_more x inside is =
      let next : x ∷ drop (i + 1) more ≡ drop i more = ap (λ y. y ∷ drop (i + 1) more) is ∙ sym (at_drop_more (λ l. l) more i x inside) in
      ap (take n) (append_assoc held (x ∷ []) (drop (i + 1) more) ∙ ap (λ l. held ++ l) next)

  pub no_more : length held ≤ n → length more ≤ i → take n (held ++ drop i more) ≡ held
  no_more few past = ap (λ l. take n (held ++ l)) (at_drop_all (λ l. l) more i past) ∙ ap (take n) (append-nil held) ∙ take_all n held few
