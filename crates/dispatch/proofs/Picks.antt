-- The soonest of the times that are left is that of the job ranked next. Assumes nothing.
use Rattle.std.proofs.Common.{◌≡◌, ℕ, zero, suc, ◌+◌, ◌*◌, ◌%◌, ◌^◌, ◌<◌, ◌≤◌, Bool, true, false, cond, ◌⊎◌, Ordering, Less, Equal, Greater, List, [], ◌∷◌, map, Option, Some, None, length, get_or, set, subst, sym, refl, ap, ◌∙◌, inl, inr, le_of_eq, arith, get_or-set_other, get_or-set_same}
use denote.Param.Members.{Mut}
use denote.Ref.{Bor}
use lib.Bits.{bit_or}
use Rattle.std.specs.Fn.{CalledAt}
use Rattle.std.specs.Iterator.{KeyTurn, PicksMinByKey}
use Rattle.std.specs.Option.{unwrap_or}
use Rattle.std.proofs.lemmas.List.{map-id}
use Rattle.std.proofs.lemmas.Iterator.{YieldsList, items_from_drains}
use Rattle.std.specs.List.{FoldsTo, range_with_len}
use Rattle.std.specs.Ordering.{nat_cmp, min_by_ordering}
use Rattle.std.proofs.lemmas.Nat.{one_shl}
use Rattle.std.proofs.lemmas.Bool.{true_from_ne_false, cases_eq, cases_order, cases_lt, lt-ltb, le-ltb, eq-eqb, ne_eqb}
use Rattle.std.proofs.lemmas.Bool.Decides.{nat_tests}
use Rattle.schedule.specs.Row.{TaskRow}
use Rattle.schedule.specs.Order.{unfinished, due, ahead, runs, word, names}
use Rattle.schedule.proofs.Jobs.{names_runs}
use Rattle.schedule.proofs.Next.{NextJob, runs_none, runs_next, runs_others, word_next}
use Rattle.dispatch.specs.Times.{never, due_time, Soonest}
use Rattle.dispatch.proofs.Words.{bit_set}

-- the times of the jobs that do not run on g processors
abbrev pub Left : (ℕ → TaskRow) → ℕ → List ℕ → Type 0
Left slot g times = (i : ℕ) → i < 32 → get_or times i 0 ≡ cond (runs slot g i) never (due_time (slot i))

ahead_by : (slot : ℕ → TaskRow) (k i : ℕ) → due (slot k) ≤ due (slot i) → (i < k → due (slot k) < due (slot i)) → (i ≡ k → ⊥) → ahead slot k i ≡ true
unfolding ahead
ahead_by slot k i le before ne = go (cases_order i k)
  where
    go : (i ≡ k) ⊎ ((i < k) ⊎ (k < i)) → ahead slot k i ≡ true
    go (inl e) = absurd (ne e)
    go (inr (inl l)) = let b = before l in grind (arith, nat_tests)
    go (inr (inr l)) = grind (arith, nat_tests)

-- a time that is not never is that of a job that is left
time_of : (run waits : Bool) (d t : ℕ) → t ≡ cond run never (cond waits d never) → (t ≡ never → ⊥) → (run ≡ false) × (waits ≡ true)
time_of true waits d t e some = absurd (some e)
time_of false true d t e some = (refl, refl)
time_of false false d t e some = absurd (some e)

module _ (slot : ℕ → TaskRow) (g : ℕ) (times : List ℕ) (left : Left slot g times) (k : ℕ) (best : Soonest times k) where
  -- the time of a job that is left
  time_left : (i : ℕ) → i < 32 → unfinished (slot i) ≡ true → runs slot g i ≡ false → get_or times i 0 ≡ due (slot i)
  time_left i below u out = left i below ∙ rw (out, u) refl

  pub next_by_time : (get_or times k 0 ≡ never → ⊥) → NextJob slot g k
  next_by_time some = record { below = best.within; waits = here.1; out = here.0; first = first }
    where
      here : (runs slot g k ≡ false) × (unfinished (slot k) ≡ true)
      here = time_of (runs slot g k) (unfinished (slot k)) (due (slot k)) (get_or times k 0) (left k best.within) some

      mine : get_or times k 0 ≡ due (slot k)
      mine = time_left k best.within here.1 here.0

      first : (i : ℕ) → i < 32 → unfinished (slot i) ≡ true → runs slot g i ≡ false → (i ≡ k → ⊥) → ahead slot k i ≡ true
      first i below u out =
          let its : get_or times i 0 ≡ due (slot i) = time_left i below u out in
          ahead_by slot k i (omega (arith, mine, best.soonest i below)) (λ l. omega (arith, mine, best.first i l))

  pub none_by_time : get_or times k 0 ≡ never → ((i : ℕ) → i < 32 → unfinished (slot i) ≡ true → due (slot i) < never) → (i : ℕ) → i < 32 → unfinished (slot i) ≡ true → runs slot g i ≡ true
  none_by_time none sooner i below u = true_from_ne_false _ (λ out. omega (arith, sooner i below u, best.soonest i below, time_left i below u out))

pub due_sooner : (r : TaskRow) (t : ℕ) → t ≡ due_time r → unfinished r ≡ true → t < never → due r < never
due_sooner r t is u sooner = let e : due_time r ≡ due r = rw u refl in omega (arith, is ∙ e)

-- the times that are left behind a pick
pub left_next : (slot : ℕ → TaskRow) (g k : ℕ) (times : List ℕ) → length times ≡ 32 → Left slot g times → NextJob slot g k → Left slot (g + 1) (set times k never)
left_next slot g k times full left next i below = go (cases_eq i k)
  where
    go : (i ≡ k) ⊎ (i ≡ k → ⊥) → get_or (set times k never) i 0 ≡ cond (runs slot (g + 1) i) never (due_time (slot i))
    go (inl e) = rw e (get_or-set_same times k never 0 (omega (arith, next.below)) ∙ rw (runs_next slot g k next) refl)
    go (inr ne) = get_or-set_other times k i never 0 ne ∙ left i below ∙ ap (λ b. cond b never (due_time (slot i))) (sym (runs_others slot g k next i below ne))

pub left_first : (slot : ℕ → TaskRow) (times : List ℕ) → ((i : ℕ) → i < 32 → get_or times i 0 ≡ due_time (slot i)) → Left slot 0 times
left_first slot times each i below = each i below ∙ rw (runs_none slot i) refl

-- the word with the bit of a pick
pub word_picked : (slot : ℕ → TaskRow) (g k w : ℕ) → w ≡ word slot g → NextJob slot g k → bit_or w ((1 * 2 ^ k) % 2 ^ 32) ≡ word slot (g + 1)
word_picked slot g k w is next =
    let free : names (word slot g) k ≡ 0 = names_runs slot g k next.below ∙ rw next.out refl in
    ap (bit_or w) (one_shl k 32 next.below) ∙ ap (λ x. bit_or x (2 ^ k)) is ∙ bit_set (word slot g) k free ∙ sym (word_next slot g k next)

-- of the times at the places below i, that at k is the soonest, and those in front of k are later
abbrev pub Best : List ℕ → ℕ → ℕ → Type 0
Best times i k = (k < i) × ((p : ℕ) → p < i → get_or times k 0 ≤ get_or times p 0) × ((p : ℕ) → p < k → get_or times k 0 < get_or times p 0)

keeps : (a b k i : ℕ) → a ≤ b → min_by_ordering (nat_cmp a b) k i ≡ k
keeps a b k i h = go (cases_eq a b)
  where
    go : (a ≡ b) ⊎ (a ≡ b → ⊥) → min_by_ordering (nat_cmp a b) k i ≡ k
    go (inl e) = rw (le-ltb a b (omega arith), eq-eqb a b e) refl
    go (inr ne) = rw (lt-ltb a b (omega arith)) refl

takes : (a b k i : ℕ) → b < a → min_by_ordering (nat_cmp a b) k i ≡ i
takes a b k i h = rw (le-ltb a b (omega arith), ne_eqb a b (λ e. omega arith)) refl

best_more : (times : List ℕ) (i k : ℕ) → Best times i k → Best times (i + 1) (min_by_ordering (nat_cmp (get_or times k 0) (get_or times i 0)) k i)
best_more times i k best = go (cases_lt (get_or times i 0) (get_or times k 0))
  where
    below : (b : ℕ) → get_or times b 0 ≤ get_or times k 0 → get_or times b 0 ≤ get_or times i 0 → (p : ℕ) → p < i + 1 → (p ≡ i) ⊎ (p ≡ i → ⊥) → get_or times b 0 ≤ get_or times p 0
    below b l m p h (inl e) = omega (arith, ap (λ q. get_or times q 0) e)
    below b l m p h (inr ne) = omega (arith, best.1 p (omega arith))

    go : (get_or times i 0 < get_or times k 0) ⊎ (get_or times k 0 ≤ get_or times i 0) → Best times (i + 1) (min_by_ordering (nat_cmp (get_or times k 0) (get_or times i 0)) k i)
    go (inl l) = subst (Best times (i + 1)) (sym (takes (get_or times k 0) (get_or times i 0) k i l)) (omega arith, λ p h. below i (omega arith) (omega arith) p h (cases_eq p i), λ p h. omega (arith, best.1 p h))
    go (inr l) = subst (Best times (i + 1)) (sym (keeps (get_or times k 0) (get_or times i 0) k i l)) (omega (arith, best.0), λ p h. below k (omega arith) l p h (cases_eq p i), best.2)

pick_at : (times : List ℕ) (o : Ordering) (k i : ℕ) → min_by_ordering o (get_or times k 0) (get_or times i 0) ≡ get_or times (min_by_ordering o k i) 0
pick_at times Less k i = refl
pick_at times Equal k i = refl
pick_at times Greater k i = refl

-- a search by key for the least, over the numbers from i on
module _ {F : Type 0} (g : Mut F (Bor ℕ × Unit {0}) ℕ) (f : F) (times : List ℕ) (calls : (x t : ℕ) (q : F) → CalledAt g f x t q → (q ≡ f) × (t ≡ get_or times x 0)) where
  best_picked : (n i b t : ℕ) (h : F) (q : F × ℕ) (y : ℕ) → h ≡ f → t ≡ get_or times b 0 → Best times i b → FoldsTo {P = (F × ℕ) × ℕ} (KeyTurn min_by_ordering min_by_ordering g nat_cmp) ((h, t), b) (range_with_len i n) (q, y) → Best times (i + n) y
  best_picked zero i b t h q y same key best turns = subst (λ k. Best times k y) (omega arith) (subst (Best times i) (ap (λ p. p.1) turns) best)
  best_picked (suc n) i b t h q y same key best turns =
      let next = turns.0 in
      let turn = turns.1 in
      let call = calls i turn.0 next.0.0 (subst (λ p. CalledAt g p i turn.0 next.0.0) same turn.2) in
      let o : turn.1 ≡ nat_cmp (get_or times b 0) (get_or times i 0) = sym turn.3 ∙ ap (λ a. nat_cmp a turn.0) key ∙ ap (nat_cmp (get_or times b 0)) call.1 in
      let at : next.0.1 ≡ get_or times next.1 0 = turn.4 ∙ ap (λ a. min_by_ordering turn.1 a turn.0) key ∙ ap (min_by_ordering turn.1 (get_or times b 0)) call.1 ∙ pick_at times turn.1 b i ∙ ap (λ k. get_or times k 0) (sym turn.5) in
      let more = subst (Best times (i + 1)) (sym (turn.5 ∙ ap (λ r. min_by_ordering r b i) o)) (best_more times i b best) in
      subst (λ k. Best times k y) (omega arith) (best_picked n (i + 1) next.1 next.0.1 next.0.0 q y call.0 at more turns.2)

  pub soonest_picked : {S : Type 0} {steps : S → Option ℕ → S → Type 0} (s : S) → YieldsList steps (λ x. x) s (range_with_len 0 32) → (o : Option ℕ) → PicksMinByKey steps g nat_cmp s f o → (r : ℕ) → r ≡ unwrap_or o 0 → Soonest times r
  soonest_picked s road None d r is = let none : [] ≡ range_with_len 0 32 = items_from_drains [] (d.1.0, d.1.1, λ _. (d.0, d.1.2)) road in absurd cc
  soonest_picked s road (Some y) w r is =
      let x = w.0 in
      let xs = w.1 in
      let d = w.5 in
      let all : map (λ z. z) (x ∷ xs) ≡ range_with_len 0 32 = items_from_drains (x ∷ xs) (d.1.0, d.1.1, λ _. (d.0, d.1.2)) road in
      let items : xs ≡ range_with_len 1 31 = sym (map-id xs) ∙ cc in
      let first : x ≡ 0 = cc in
      let call = calls x w.2 w.3 w.6 in
      let start : Best times 1 x = (omega (arith, first), λ p h. le_of_eq (ap (λ k. get_or times k 0) (omega (arith, first))), λ p h. absurd (omega (arith, first))) in
      let best = best_picked 31 1 x w.2 w.3 w.4 y call.0 call.1 start (subst (λ l. FoldsTo {P = (F × ℕ) × ℕ} (KeyTurn min_by_ordering min_by_ordering g nat_cmp) ((w.3, w.2), x) l (w.4, y)) items w.7) in
      subst (Soonest times) (sym is) (record { within = best.0; soonest = best.1; first = best.2 })
