-- The keys of the unfinished jobs, as a row is replaced by another. Assumes nothing.
use Rattle.std.proofs.Common.{◌≡◌, ℕ, ◌<◌, ◌≤◌, Bool, true, false, not, ◌&&◌, ◌||◌, eqb, ◌⊎◌, List, length, Option, get_or, set, sym, refl, ap, ◌∙◌, inl, inr, arith}
use Rattle.std.proofs.lemmas.Bool.{false_from_ne_true, cases_eq, cases_lt, cases_Bool, and_parts, and_left, eqb-true, eq-eqb, ne_eqb}
use Rattle.schedule.specs.Row.{TaskRow}
use Rattle.schedule.specs.Calls.{quiet}
use Rattle.schedule.specs.Order.{unfinished}
use Rattle.schedule.specs.State.{blank, put}
use Rattle.schedule.proofs.Rows.{put_same, put_other}
use Rattle.dispatch.specs.Keys.{key_of, id_of, keyed, waits, among, Sorted, Kept}
use Rattle.dispatch.specs.Rows.{row_said, slots}
use Rattle.dispatch.specs.declared.held_task.HeldTask.{HeldTask}
use Rattle.dispatch.proofs.Places.{InOrder, number_key, number_below, at_place, place_of, room_left}
use Rattle.dispatch.proofs.Tables.{slots_set, not_quiet, is_quiet}

and_not : (a : Bool) → a && not a ≡ false
and_not true = refl
and_not false = refl

and_true : (a : Bool) → a && true ≡ a
and_true true = refl
and_true false = refl

or_false : (a : Bool) → a || false ≡ a
or_false true = refl
or_false false = refl

-- a key tells of the row of its own number alone
pub waits_same : (slot other : ℕ → TaskRow) (x : ℕ) → slot (id_of x) ≡ other (id_of x) → waits slot x ≡ waits other x
unfolding waits
waits_same slot other x e = ap (λ r. keyed (id_of x) r x) e

-- no key waits where no job is unfinished
pub waits_none : (slot : ℕ → TaskRow) → ((i : ℕ) → unfinished (slot i) ≡ false) → (x : ℕ) → waits slot x ≡ false
unfolding waits
waits_none slot each x = and_left _ _ (each (id_of x))

-- there is no key where, and only where, no job is unfinished
pub count_quiet : (slot : ℕ → TaskRow) (keys : List ℕ) (n : ℕ) → InOrder slot keys n → eqb n 0 ≡ quiet slot
count_quiet slot keys n kept = go (cases_lt 0 n)
  where
    none : n ≤ 0 → (i : ℕ) → i < 32 → (unfinished (slot i) ≡ true) ⊎ (unfinished (slot i) ≡ false) → unfinished (slot i) ≡ false
    none l i h (inl u) = absurd (omega (arith, (place_of slot keys n kept i h u).1))
    none l i h (inr f) = f

    go : (0 < n) ⊎ (n ≤ 0) → eqb n 0 ≡ quiet slot
    go (inl l) = ne_eqb n 0 (λ e. omega arith) ∙ sym (not_quiet slot (id_of (get_or keys 0 0)) (number_below (get_or keys 0 0)) (at_place slot keys n kept 0 l).0)
    go (inr l) = eq-eqb n 0 (omega arith) ∙ sym (is_quiet slot (λ i h. none l i h (cases_Bool (unfinished (slot i)))))

module _ (slot : ℕ → TaskRow) (id : ℕ) (below : id < 32) where
  -- the key of another number is not that of row id
  others_key : (r : TaskRow) (x : ℕ) → (id_of x ≡ id → ⊥) → keyed id r x ≡ false
  others_key r x ne = false_from_ne_true _ (λ t. ne (ap id_of (sym (eqb-true (key_of id r) x (and_parts _ _ t).1)) ∙ number_key id r below))

  -- the keys without that of row id
  waits_left : (x : ℕ) → waits slot x && not (keyed id (slot id) x) ≡ waits (put slot id blank) x
  unfolding waits
  waits_left x = go (cases_eq (id_of x) id)
    where
      go : (id_of x ≡ id) ⊎ (id_of x ≡ id → ⊥) → keyed (id_of x) (slot (id_of x)) x && not (keyed id (slot id) x) ≡ keyed (id_of x) (put slot id blank (id_of x)) x
      go (inl e) = ap (λ k. keyed k (slot k) x && not (keyed id (slot id) x)) e ∙ and_not (keyed id (slot id) x) ∙ ap (λ r. keyed (id_of x) r x) (sym (put_same slot id blank (id_of x) e))
      go (inr ne) =
          ap (λ b. keyed (id_of x) (slot (id_of x)) x && not b) (others_key (slot id) x ne)
          ∙ and_true (keyed (id_of x) (slot (id_of x)) x) ∙ ap (λ r. keyed (id_of x) r x) (sym (put_other slot id blank (id_of x) ne))

  -- the keys with that of a new row id
  waits_joined : (r : TaskRow) (x : ℕ) → keyed id r x || waits (put slot id blank) x ≡ waits (put slot id r) x
  unfolding waits
  waits_joined r x = go (cases_eq (id_of x) id)
    where
      go : (id_of x ≡ id) ⊎ (id_of x ≡ id → ⊥) → keyed id r x || keyed (id_of x) (put slot id blank (id_of x)) x ≡ keyed (id_of x) (put slot id r (id_of x)) x
      go (inl e) =
          ap (λ s. keyed id r x || keyed (id_of x) s x) (put_same slot id blank (id_of x) e)
          ∙ or_false (keyed id r x) ∙ ap (λ k. keyed k r x) (sym e) ∙ ap (λ s. keyed (id_of x) s x) (sym (put_same slot id r (id_of x) e))
      go (inr ne) =
          ap (λ b. b || keyed (id_of x) (put slot id blank (id_of x)) x) (others_key r x ne)
          ∙ ap (λ s. keyed (id_of x) s x) (put_other slot id blank (id_of x) ne ∙ sym (put_other slot id r (id_of x) ne))

  -- no key has a number whose row is blank
  waits_blank : (r : TaskRow) → waits (put slot id blank) (key_of id r) ≡ false
  unfolding waits
  waits_blank r = ap (λ s. keyed (id_of (key_of id r)) s (key_of id r)) (put_same slot id blank (id_of (key_of id r)) (number_key id r below))

  module _ (keys : List ℕ) (count : ℕ) (kept : Kept slot keys count) (less : List ℕ) (fewer : ℕ) (sorted : Sorted less fewer) (left : (x : ℕ) → among less fewer x ≡ among keys count x && not (keyed id (slot id) x)) where
    kept_left : InOrder (put slot id blank) less fewer
    kept_left = record { sorted = sorted; holds = λ x. left x ∙ ap (λ b. b && not (keyed id (slot id) x)) (kept x) ∙ waits_left x }

    pub room_behind : fewer < 32
    room_behind = room_left (put slot id blank) less fewer kept_left id below (ap unfinished (put_same slot id blank id refl))

    pub new_key : (r : TaskRow) → among less fewer (key_of id r) ≡ false
    new_key r = kept_left.holds (key_of id r) ∙ waits_blank r

    pub joined_holds : (r : TaskRow) (more : List ℕ) (n : ℕ) → ((x : ℕ) → among more n x ≡ keyed id r x || among less fewer x) → Kept (put slot id r) more n
    joined_holds r more n joined x = joined x ∙ ap (λ b. keyed id r x || b) (kept_left.holds x) ∙ waits_joined r x

    pub left_holds : (r : TaskRow) → unfinished r ≡ false → Kept (put slot id r) less fewer
    left_holds r finished = joined_holds r less fewer (λ x. sym (ap (λ b. (b && eqb (key_of id r) x) || among less fewer x) finished))

-- the jobs are kept with a row set
pub kept_set : (rows : List (Option HeldTask)) (id : ℕ) (o : Option HeldTask) (keys : List ℕ) (n : ℕ) → id < length rows → Kept (put (slots rows) id (row_said o)) keys n → Kept (slots (set rows id o)) keys n
kept_set rows id o keys n below holds x = holds x ∙ waits_same _ _ x (sym (slots_set rows id o below (id_of x)))
