-- Keys in order, of which one is put in or some are taken out. Assumes nothing.
use Rattle.std.proofs.Common.{◌≡◌, ℕ, ◌+◌, ◌-◌, ◌<◌, ◌≤◌, Bool, true, false, not, ◌&&◌, ◌||◌, eqb, ◌⊎◌, List, length, get_or, take, set, ltb, Decides, sym, refl, ap, ◌∙◌, subst, inl, inr, add-one, arith, length-set, get_or-set_other, get_or-set_same}
use mir.Val.{bool_byte}
use Rattle.std.specs.List.Sorted.{IsPartitionedBy}
use Rattle.std.proofs.lemmas.List.{get_or-take, length-take-le, get_or_default}
use Rattle.std.proofs.lemmas.Bool.{false_from_ne_true, lt-ltb, ltb-true, cases_eq, cases_Bool, cases_order, cases_lt, and_parts, eqb-true, both_ways}
use Rattle.std.proofs.lemmas.Bool.Decides.{Decides-eqb, Decides-below_or, Decides-like, Decides-or, Decides-and, Decides-not, same_from_decides}
use Rattle.dispatch.specs.Keys.{among, Sorted}

pub among_none : (keys : List ℕ) (x : ℕ) → among keys 0 x ≡ false
unfolding among
among_none keys x = refl

pub among_more : (keys : List ℕ) (n x : ℕ) → among keys (n + 1) x ≡ (eqb (get_or keys n 0) x || among keys n x)
unfolding among
among_more keys n x = rw (add-one n) refl

-- a key is among the first n where it stands at a place below n
pub among_place : (keys : List ℕ) (x n : ℕ) → Decides (among keys n x) ((p : ℕ) × (p < n) × (get_or keys p 0 ≡ x))
unfolding among
among_place keys x = Decides-below_or (λ p. eqb (get_or keys p 0) x) (λ p. get_or keys p 0 ≡ x) (λ n. among keys n x) (λ p. Decides-eqb (get_or keys p 0) x) refl (λ _. refl)

-- a write behind the first n leaves them
among_set : (keys : List ℕ) (n key x : ℕ) → among (set keys n key) n x ≡ among keys n x
among_set keys n key x = same_from_decides (among (set keys n key) n x) (among keys n x)
    (Decides-like (among (set keys n key) n x) (λ w. (w.0, w.1, sym (get_or-set_other keys n w.0 key 0 (λ e. omega (arith, w.1))) ∙ w.2)) (λ w. (w.0, w.1, get_or-set_other keys n w.0 key 0 (λ e. omega (arith, w.1)) ∙ w.2)) (among_place (set keys n key) x n))
    (among_place keys x n)

-- of the old keys below place at, those that pass stand in the first kept places, and the others are as they were
pub record Filtered (old keys : List ℕ) (kept at : ℕ) (stays : ℕ → Bool) : Type 0 where
  pub sorted : Sorted keys kept
  pub le : kept ≤ at
  pub rest : (p : ℕ) → at ≤ p → get_or keys p 0 ≡ get_or old p 0
  pub holds : (x : ℕ) → among keys kept x ≡ (among old at x && stays x)

kept_more : (is old stays : Bool) → (is ≡ true → stays ≡ true) → is || (old && stays) ≡ (is || old) && stays
kept_more true old stays h = sym (h refl)
kept_more false old stays h = refl

dropped_more : (is old stays : Bool) → (is ≡ true → stays ≡ false) → old && stays ≡ (is || old) && stays
dropped_more true true stays h = refl
dropped_more true false stays h = sym (h refl)
dropped_more false old stays h = refl

-- fewer of the keys are in order as well
pub sorted_less : (keys : List ℕ) (n m : ℕ) → m ≤ n → Sorted keys n → Sorted keys m
sorted_less keys n m le sorted = record { room = sorted.room; few = omega (arith, sorted.few); ordered = λ p q h. sorted.ordered p q (h.0, omega (arith, h.1)) }

-- a write behind them leaves them in order
pub sorted_set : (keys : List ℕ) (n at key : ℕ) → n ≤ at → Sorted keys n → Sorted (set keys at key) n
sorted_set keys n at key le sorted =
    record {
      room = length-set keys at key ∙ sorted.room;
      few = sorted.few;
      ordered = λ p q h. omega (arith, get_or-set_other keys at q key 0 (λ e. omega (arith, h.1)), get_or-set_other keys at p key 0 (λ e. omega (arith, h.0, h.1)), sorted.ordered p q h);
    }

-- nothing is taken out of the first keys, where all of them pass
pub filtered_none : (keys : List ℕ) (n at : ℕ) (stays : ℕ → Bool) → Sorted keys n → at ≤ n → ((x : ℕ) → among keys at x ≡ true → stays x ≡ true) → Filtered keys keys at at stays
filtered_none keys n at stays sorted within pass =
    record {
      sorted = sorted_less keys n at within sorted;
      le = omega arith;
      rest = λ p h. refl;
      holds = λ x. all (among keys at x) (stays x) (pass x);
    }
  where
    all : (a b : Bool) → (a ≡ true → b ≡ true) → a ≡ a && b
    all true b h = sym (h refl)
    all false b h = refl

module _ (old keys : List ℕ) (kept at key : ℕ) (stays : ℕ → Bool) (so : Filtered old keys kept at stays) (is : key ≡ get_or keys at 0) where
  stays_same : (b : Bool) → stays key ≡ b → (x : ℕ) → eqb (get_or old at 0) x ≡ true → stays x ≡ b
  stays_same b h x e = ap stays (sym (is ∙ so.rest at (omega arith) ∙ eqb-true (get_or old at 0) x e)) ∙ h

  -- the key at the next place does not pass, and is left behind those that are kept
  filtered_drop : (n : ℕ) → stays key ≡ false → Sorted old n → at < n → Filtered old (set keys kept key) kept (at + 1) stays
  filtered_drop n fails whole below =
      record {
        sorted = sorted_set keys kept kept key (omega arith) so.sorted;
        le = omega (arith, so.le);
        rest = λ p h. get_or-set_other keys kept p key 0 (λ e. omega (arith, so.le)) ∙ so.rest p (omega arith);
        holds = λ x.
            among_set keys kept key x ∙ so.holds x ∙ dropped_more (eqb (get_or old at 0) x) (among old at x) (stays x) (stays_same false fails x)
            ∙ ap (λ b. b && stays x) (sym (among_more old at x));
      }

  -- it passes, and is kept
  filtered_keep : (n : ℕ) → stays key ≡ true → Sorted old n → at < n → Filtered old (set keys kept key) (kept + 1) (at + 1) stays
  filtered_keep n pass whole below =
      record {
        sorted = record { room = length-set keys kept key ∙ so.sorted.room; few = omega (arith, so.le, whole.few); ordered = λ p q h. in_order p q h.0 h.1 (cases_eq q kept) };
        le = omega (arith, so.le);
        rest = λ p h. get_or-set_other keys kept p key 0 (λ e. omega (arith, so.le)) ∙ so.rest p (omega arith);
        holds = holds;
      }
    where
      here : get_or (set keys kept key) kept 0 ≡ key
      here = get_or-set_same keys kept key 0 (omega (arith, so.le, so.sorted.room, whole.few))

      moved : key ≡ get_or old at 0
      moved = is ∙ so.rest at (omega arith)

      holds : (x : ℕ) → among (set keys kept key) (kept + 1) x ≡ (among old (at + 1) x && stays x)
      holds x =
          among_more (set keys kept key) kept x
          ∙ ap (λ k. eqb k x || among (set keys kept key) kept x) (here ∙ moved)
          ∙ ap (λ b. eqb (get_or old at 0) x || b) (among_set keys kept key x ∙ so.holds x)
          ∙ kept_more (eqb (get_or old at 0) x) (among old at x) (stays x) (stays_same true pass x)
          ∙ ap (λ b. b && stays x) (sym (among_more old at x))

      later : (p : ℕ) → p < kept → key < get_or keys p 0
      later p h =
          let in-old = and_parts (among old at (get_or keys p 0)) (stays (get_or keys p 0)) (sym (so.holds (get_or keys p 0)) ∙ (among_place keys (get_or keys p 0) kept).1 (p, h, refl)) in
          let place = (among_place old (get_or keys p 0) at).0 in-old.0 in
          omega (arith, moved, place.2, whole.ordered place.0 at (place.1, below))

      in_order : (p q : ℕ) → p < q → q < kept + 1 → (q ≡ kept) ⊎ (q ≡ kept → ⊥) → get_or (set keys kept key) q 0 < get_or (set keys kept key) p 0
      in_order p q less h (inl e) = omega (arith, ap (λ k. get_or (set keys kept key) k 0) e, here, get_or-set_other keys kept p key 0 (λ r. omega arith), later p (omega arith))
      in_order p q less h (inr ne) = omega (arith, get_or-set_other keys kept q key 0 ne, get_or-set_other keys kept p key 0 (λ r. omega arith), so.sorted.ordered p q (less, omega arith))

  -- the step over the key at the next place
  pub filtered_more : (n next : ℕ) → Sorted old n → at < n → next ≡ kept + bool_byte (stays key) → Filtered old (set keys kept key) next (at + 1) stays
  filtered_more n next whole below e = go (cases_Bool (stays key))
    where
      go : (stays key ≡ true) ⊎ (stays key ≡ false) → Filtered old (set keys kept key) next (at + 1) stays
      go (inl t) = subst (λ k. Filtered old (set keys kept key) k (at + 1) stays) (sym (e ∙ rw t refl)) (filtered_keep n t whole below)
      go (inr f) = subst (λ k. Filtered old (set keys kept key) k (at + 1) stays) (sym (e ∙ rw f (omega arith))) (filtered_drop n f whole below)

-- no key that is later than another comes behind one that is not
pub in_front : (keys : List ℕ) (n key : ℕ) → Sorted keys n → IsPartitionedBy (λ x. ltb key x) (take n keys)
in_front keys n key sorted i j d le below later = go (cases_eq i j)
  where
    long : length (take n keys) ≡ n
    long = length-take-le n keys (omega (arith, sorted.few, sorted.room))

    at : (p : ℕ) → p < n → get_or (take n keys) p d ≡ get_or keys p 0
    at p h = get_or-take n keys p d h ∙ get_or_default keys p d 0 (omega (arith, h, sorted.few, sorted.room))

    go : (i ≡ j) ⊎ (i ≡ j → ⊥) → ltb key (get_or (take n keys) i d) ≡ true
    go (inl e) = ap (λ p. ltb key (get_or (take n keys) p d)) e ∙ later
    go (inr ne) = lt-ltb _ _ (omega (arith, ltb-true key _ later, at i (omega (arith, long)), at j (omega (arith, long)), sorted.ordered i j (omega arith, omega (arith, long))))

-- the first n keys with a free place: those behind it have moved up by one, and are sooner than the key that is put in
pub record Opened (old keys : List ℕ) (at n key : ℕ) : Type 0 where
  pub room : length keys ≡ 32
  pub le : at ≤ n
  pub before : (p : ℕ) → p < at → get_or keys p 0 ≡ get_or old p 0
  pub behind : (p : ℕ) → at ≤ p → p < n → get_or keys (p + 1) 0 ≡ get_or old p 0
  pub sooner : (p : ℕ) → at ≤ p → p < n → get_or old p 0 < key

-- the keys in front of the free place are later than one that is no later than the last of them
later_keys : (old : List ℕ) (at n key : ℕ) → Sorted old n → among old n key ≡ false → at ≤ n → (0 < at → key ≤ get_or old (at - 1) 0) → (p : ℕ) → p < at → key < get_or old p 0
later_keys old at n key whole new le stop p h = go (cases_eq (get_or old p 0) key) (cases_eq p (at - 1))
  where
    go : (get_or old p 0 ≡ key) ⊎ (get_or old p 0 ≡ key → ⊥) → (p ≡ at - 1) ⊎ (p ≡ at - 1 → ⊥) → key < get_or old p 0
    go (inl e) o = absurd (both_ways (among old n key) new ((among_place old key n).1 (p, omega arith, e)))
    go (inr ne) (inl e) = let same : get_or old p 0 ≡ get_or old (at - 1) 0 = ap (λ k. get_or old k 0) e in omega (arith, same, stop (omega arith), ne)
    go (inr ne) (inr o) = omega (arith, stop (omega arith), whole.ordered p (at - 1) (omega arith, omega arith))

-- the key is put in there
module _ (old keys : List ℕ) (at n key : ℕ) (so : Opened old keys at n key) (whole : Sorted old n) (few : n < 32) (new : among old n key ≡ false) (stop : 0 < at → key ≤ get_or keys (at - 1) 0) where
  later : (p : ℕ) → p < at → key < get_or old p 0
  later = later_keys old at n key whole new so.le (λ h. omega (arith, stop h, so.before (at - 1) (omega arith)))

  abbrev closed : ℕ → ℕ
  closed p = get_or (set keys at key) p 0

  closed_before : (p : ℕ) → p < at → closed p ≡ get_or old p 0
  closed_before p h = get_or-set_other keys at p key 0 (λ e. omega arith) ∙ so.before p h

  closed_at : closed at ≡ key
  closed_at = get_or-set_same keys at key 0 (omega (arith, so.le, so.room))

  closed_up : (q : ℕ) → at < q → q < n + 1 → closed q ≡ get_or old (q - 1) 0
  closed_up q h l = get_or-set_other keys at q key 0 (λ e. omega arith) ∙ ap (λ k. get_or keys k 0) (omega arith) ∙ so.behind (q - 1) (omega arith) (omega arith)

  pub closed_sorted : Sorted (set keys at key) (n + 1)
  closed_sorted = record { room = length-set keys at key ∙ so.room; few = omega arith; ordered = λ p q h. go p q h.0 h.1 (cases_order q at) (cases_order p at) }
    where
      go : (p q : ℕ) → p < q → q < n + 1 → (q ≡ at) ⊎ ((q < at) ⊎ (at < q)) → (p ≡ at) ⊎ ((p < at) ⊎ (at < p)) → closed q < closed p
      go p q less h (inl e) o = omega (arith, ap closed e, closed_at, closed_before p (omega arith), later p (omega arith))
      go p q less h (inr (inl l)) o = omega (arith, closed_before q l, closed_before p (omega arith), whole.ordered p q (less, omega (arith, so.le)))
      go p q less h (inr (inr l)) (inl e) = omega (arith, closed_up q l h, ap closed e, closed_at, so.sooner (q - 1) (omega arith) (omega arith))
      go p q less h (inr (inr l)) (inr (inl b)) = omega (arith, closed_up q l h, closed_before p b, whole.ordered p (q - 1) (omega arith, omega arith))
      go p q less h (inr (inr l)) (inr (inr b)) = omega (arith, closed_up q l h, closed_up p b (omega arith), whole.ordered (p - 1) (q - 1) (omega arith, omega arith))

  pub closed_holds : (x : ℕ) → among (set keys at key) (n + 1) x ≡ (eqb key x || among old n x)
  closed_holds x =
      same_from_decides (among (set keys at key) (n + 1) x) (eqb key x || among old n x)
      (Decides-like (among (set keys at key) (n + 1) x) there back (among_place (set keys at key) x (n + 1)))
      (Decides-or (eqb key x) (among old n x) (Decides-eqb key x) (among_place old x n))
    where
      there : (p : ℕ) × (p < n + 1) × (closed p ≡ x) → (key ≡ x) ⊎ ((p : ℕ) × (p < n) × (get_or old p 0 ≡ x))
      there w = go (cases_order w.0 at)
        where
          go : (w.0 ≡ at) ⊎ ((w.0 < at) ⊎ (at < w.0)) → (key ≡ x) ⊎ ((p : ℕ) × (p < n) × (get_or old p 0 ≡ x))
          go (inl e) = inl (sym closed_at ∙ ap closed (sym e) ∙ w.2)
          go (inr (inl l)) = inr (w.0, omega (arith, so.le), sym (closed_before w.0 l) ∙ w.2)
          go (inr (inr l)) = inr (w.0 - 1, omega (arith, w.1), sym (closed_up w.0 l w.1) ∙ w.2)

      back : (key ≡ x) ⊎ ((p : ℕ) × (p < n) × (get_or old p 0 ≡ x)) → (p : ℕ) × (p < n + 1) × (closed p ≡ x)
      back (inl e) = (at, omega (arith, so.le), closed_at ∙ e)
      back (inr w) = go (cases_lt w.0 at)
        where
          go : (w.0 < at) ⊎ (at ≤ w.0) → (p : ℕ) × (p < n + 1) × (closed p ≡ x)
          go (inl l) = (w.0, omega (arith, w.1), closed_before w.0 l ∙ w.2)
          go (inr l) = (w.0 + 1, omega (arith, w.1), closed_up (w.0 + 1) (omega arith) (omega (arith, w.1)) ∙ ap (λ k. get_or old k 0) (omega arith) ∙ w.2)

-- the keys behind place at have moved down by one, over the one that stood there
module _ (old keys : List ℕ) (at n key : ℕ) (whole : Sorted old n) (within : at < n) (is : get_or old at 0 ≡ key) (room : length keys ≡ 32) (before : (p : ℕ) → p < at → get_or keys p 0 ≡ get_or old p 0) (behind : (p : ℕ) → at ≤ p → p + 1 < n → get_or keys p 0 ≡ get_or old (p + 1) 0) where
  pub taken_holds : (x : ℕ) → among keys (n - 1) x ≡ (among old n x && not (eqb key x))
  taken_holds x =
      same_from_decides (among keys (n - 1) x) (among old n x && not (eqb key x))
      (Decides-like (among keys (n - 1) x) there back (among_place keys x (n - 1)))
      (Decides-and (among old n x) (not (eqb key x)) (among_place old x n) (Decides-not (eqb key x) (Decides-eqb key x)))
    where
      -- a key at another place is another
      apart : (p : ℕ) → p < n → (p < at) ⊎ (at < p) → get_or old p 0 ≡ x → key ≡ x → ⊥
      apart p h (inl l) e k = omega (arith, e, k, is, whole.ordered p at (l, within))
      apart p h (inr l) e k = omega (arith, e, k, is, whole.ordered at p (l, h))

      there : (p : ℕ) × (p < n - 1) × (get_or keys p 0 ≡ x) → ((p : ℕ) × (p < n) × (get_or old p 0 ≡ x)) × (key ≡ x → ⊥)
      there w = go (cases_lt w.0 at)
        where
          go : (w.0 < at) ⊎ (at ≤ w.0) → ((p : ℕ) × (p < n) × (get_or old p 0 ≡ x)) × (key ≡ x → ⊥)
          go (inl l) = let e = sym (before w.0 l) ∙ w.2 in ((w.0, omega (arith, w.1), e), apart w.0 (omega (arith, w.1)) (inl l) e)
          go (inr l) = let e = sym (behind w.0 l (omega (arith, w.1))) ∙ w.2 in ((w.0 + 1, omega (arith, w.1), e), apart (w.0 + 1) (omega (arith, w.1)) (inr (omega arith)) e)

      back : ((p : ℕ) × (p < n) × (get_or old p 0 ≡ x)) × (key ≡ x → ⊥) → (p : ℕ) × (p < n - 1) × (get_or keys p 0 ≡ x)
      back w = go (cases_order w.0.0 at)
        where
          go : (w.0.0 ≡ at) ⊎ ((w.0.0 < at) ⊎ (at < w.0.0)) → (p : ℕ) × (p < n - 1) × (get_or keys p 0 ≡ x)
          go (inl e) = absurd (w.1 (sym is ∙ ap (λ k. get_or old k 0) (sym e) ∙ w.0.2))
          go (inr (inl l)) = (w.0.0, omega arith, before w.0.0 l ∙ w.0.2)
          go (inr (inr l)) = (w.0.0 - 1, omega (arith, w.0.1), behind (w.0.0 - 1) (omega arith) (omega (arith, w.0.1)) ∙ ap (λ k. get_or old k 0) (omega arith) ∙ w.0.2)

-- a key that stands at none of the places is not among them
pub not_among : (keys : List ℕ) (n key : ℕ) → ((p : ℕ) → p < n → get_or keys p 0 ≡ key → ⊥) → among keys n key ≡ false
not_among keys n key none = false_from_ne_true _ (λ t. let w = (among_place keys key n).0 t in none w.0 w.1 w.2)

-- there is nothing to take out where a key is not among the others
pub among_without : (keys : List ℕ) (n key : ℕ) → among keys n key ≡ false → (x : ℕ) → among keys n x ≡ (among keys n x && not (eqb key x))
among_without keys n key none x = go (eqb key x) refl
  where
    go : (b : Bool) → eqb key x ≡ b → among keys n x ≡ (among keys n x && not b)
    go true e = let out : among keys n x ≡ false = ap (among keys n) (sym (eqb-true key x e)) ∙ none in rw out refl
    go false e = both (among keys n x)
      where
        both : (a : Bool) → a ≡ (a && true)
        both true = refl
        both false = refl

-- a key is not among the others where it does not stand at its place
pub not_at_place : (keys : List ℕ) (at n key : ℕ) → Sorted keys n → ((p : ℕ) → p < at → key < get_or keys p 0) → ((p : ℕ) → (at ≤ p) × (p < n) → get_or keys p 0 ≤ key) → (at < n → get_or keys at 0 ≡ key → ⊥) → among keys n key ≡ false
not_at_place keys at n key sorted later no_later other = not_among keys n key (λ p h. go p h (cases_order p at))
  where
    go : (p : ℕ) → p < n → (p ≡ at) ⊎ ((p < at) ⊎ (at < p)) → get_or keys p 0 ≡ key → ⊥
    go p h (inl e) is = other (omega arith) (ap (λ k. get_or keys k 0) (sym e) ∙ is)
    go p h (inr (inl l)) is = omega (arith, later p l, is)
    go p h (inr (inr l)) is = omega (arith, is, sorted.ordered at p (l, h), no_later at (omega arith, omega arith))
