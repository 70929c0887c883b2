-- Numbers that stand once: there are no more of them below n than n. Assumes nothing.
use Rattle.std.proofs.Common.{◌≡◌, ℕ, ◌<◌, ◌≤◌, true, false, not, ◌||◌, eqb, ltb, List, [], ◌∷◌, ◌++◌, map, length, Ok, Err, Result, OnOk, sym, refl, ap, ◌∙◌, inl, inr, arith}
use Rattle.std.proofs.lemmas.List.{length_push, length-map, map_push}
use Rattle.std.specs.Result.{is_ok}
use Rattle.std.proofs.ByRecursion.{All-push}
use Rattle.std.proofs.lemmas.Bool.{eqb-true, eqb-false, ne_eqb, cases_Bool, and_parts, and_from, or_parts, or_from, not-true, not_from_false, lt-ltb, both_ways}
use Rattle.std.proofs.lemmas.Simd.{map-map}
use Rattle.std.proofs.lemmas.Map.Steps.{length-le_from_distinct_below}
use Rattle.std.specs.List.{AllByRecursion, IsDistinct, list_any}
use Rattle.fixed.specs.Listed.{listed}
use Rattle.task.specs.declared.card.Card.{Card}
use Rattle.task.specs.Task.{task_of}
use Rattle.plan.specs.declared.cards.CardList.{CardList}
use Rattle.plan.specs.Lists.{tasks_of}
use Rattle.plan.specs.Rows.{has, distinct, ids_in}

-- ---- in the words of the library

apart : (n : ℕ) (xs : List ℕ) → has n xs ≡ false → AllByRecursion (λ x. eqb n x ≡ false) xs
apart n [] h = tt
apart n (x ∷ xs) h = let parts = or_parts (eqb n x) (has n xs) h in (parts.0, apart n xs parts.1)

all_apart : (xs : List ℕ) → distinct xs ≡ true → IsDistinct eqb xs
unfolding IsDistinct
all_apart [] h = tt
all_apart (x ∷ xs) h =
    let parts = and_parts (not (has x xs)) (distinct xs) h in (apart x xs (not-true _ parts.0), all_apart xs parts.1)

below : (n q : ℕ) (xs : List ℕ) → AllByRecursion (λ i. i < n) xs → list_any (eqb q) xs ≡ true → q < n
below n q [] all there = absurd (both_ways false refl there)
below n q (x ∷ xs) all there =
    elim (cases_Bool (eqb q x)) [
      | inl same ↦ let first = all.0 in omega (arith, eqb-true q x same)
      | inr other ↦ below n q xs all.1 (rw other at there)
    ]

pub few : (n : ℕ) (xs : List ℕ) → distinct xs ≡ true → AllByRecursion (λ i. i < n) xs → length xs ≤ n
few n xs h all = length-le_from_distinct_below xs n (all_apart xs h) (λ q there. below n q xs all there)

-- one number more
has_push : (i y : ℕ) (xs : List ℕ) → has i xs ≡ false → (i ≡ y → ⊥) → has i (xs ++ y ∷ []) ≡ false
has_push i y [] h other = or_from (eqb i y) false (ne_eqb i y other) refl
has_push i y (x ∷ xs) h other =
    let parts = or_parts (eqb i x) (has i xs) h in
    or_from (eqb i x) _ parts.0 (has_push i y xs parts.1 other)

pub distinct_push : (xs : List ℕ) (y : ℕ) → distinct xs ≡ true → has y xs ≡ false → distinct (xs ++ y ∷ []) ≡ true
distinct_push [] y d h = refl
distinct_push (x ∷ xs) y d h =
    let parts = and_parts (not (has x xs)) (distinct xs) d in
    let free = or_parts (eqb y x) (has y xs) h in
    and_from (not (has x (xs ++ y ∷ []))) _
    (not_from_false _ (has_push x y xs (not-true _ parts.0) (λ e. eqb-false y x free.0 (sym e))))
    (distinct_push xs y parts.1 free.1)

-- ---- the numbers of cards

pub ids_below : (cards : List Card) → AllByRecursion (λ i. i < 32) (map (λ c. c.id) cards)
ids_below [] = tt
ids_below (c ∷ cards) = (c.numbered, ids_below cards)

pub ids_same : (cards : List Card) → map (λ k. k.id) (map task_of cards) ≡ map (λ c. c.id) cards
ids_same cards = map-map (λ k. k.id) task_of cards

-- a number that no card has leaves room for one card more
pub room : (cards : List Card) (y : ℕ) → distinct (map (λ c. c.id) cards) ≡ true → y < 32 → has y (map (λ c. c.id) cards) ≡ false → length cards < 32
room cards y d small free =
    let ids = map (λ c. c.id) cards in
    let all = few 32 (ids ++ y ∷ []) (distinct_push ids y d free) (All-push (λ i. i < 32) ids y (ids_below cards) small) in
    omega (arith, length_push ids y, length-map cards (λ c. c.id))

-- one card more, of a number that is free
module _ (l : CardList) (k : Card) (no-task : has k.id (map (λ t. t.id) (tasks_of l)) ≡ false) where
  free : has k.id (ids_in (listed l.cards)) ≡ false
  free = ap (has k.id) (sym (ids_same (listed l.cards))) ∙ no-task

  pub room_left : length (listed l.cards) < 32
  room_left = room (listed l.cards) k.id l.numbered k.numbered free

  pub added : {E : Type 0} (r : Result (Unit {0}) E) → is_ok r ≡ ltb (length (listed l.cards)) 32 → is_ok r ≡ true
  added r fits = fits ∙ lt-ltb _ 32 room_left

  pub still_distinct : distinct (ids_in (listed l.cards ++ k ∷ [])) ≡ true
  still_distinct =
      ap distinct (map_push (λ c. c.id) (listed l.cards) k) ∙ distinct_push (ids_in (listed l.cards)) k.id l.numbered free

  pub distinct_with : {E : Type 0} (r : Result (Unit {0}) E) (cards : List Card) → is_ok r ≡ ltb (length (listed l.cards)) 32 → OnOk r (cards ≡ listed l.cards ++ k ∷ []) → distinct (ids_in cards) ≡ true
  distinct_with (Ok t) cards fits more = ap (λ cs. distinct (ids_in cs)) more ∙ still_distinct
  distinct_with (Err e) cards fits more = absurd (both_ways _ (sym (added (Err e) fits)) refl)

-- whether one of the cards has a number
pub any_number : (n : ℕ) (cards : List Card) → list_any (λ c. eqb n c.id) cards ≡ has n (map (λ t. t.id) (map task_of cards))
any_number n [] = refl
any_number n (c ∷ cards) = ap (λ b. eqb n c.id || b) (any_number n cards)
