-- The loads of the tasks that are held: what bounds them, what leaves them, and one task more. Assumes nothing.
use Rattle.std.proofs.Common.{◌≡◌, ℕ, ◌+◌, ◌<◌, ◌≤◌, true, false, cond, not, ◌&&◌, eqb, ◌⊎◌, List, length, get_or, set, map, Option, zero, suc, add-one, sym, refl, ap, ◌∙◌, subst, inl, inr, arith, get_or-set_other, get_or-set_same}
use Rattle.std.proofs.lemmas.Bool.{cases_eq, cases_Bool, eq-eqb, ne_eqb, and_parts, and_from, and_left, and_right, not_from_false, leb-true, cond-true, cond-false, true≢false}
use denote.Param.Members.{Mut, Called}
use Rattle.std.specs.Array.{IsFromFnResultFrom}
use Rattle.std.specs.List.{range_with_len, sum as list_sum}
use Rattle.std.proofs.lemmas.List.FromFn.{sum_by-map-range_with_len_more}
use Rattle.schedule.specs.Row.{TaskRow}
use Rattle.schedule.specs.Counting.{sum}
use Rattle.schedule.specs.State.{put, with_job}
use Rattle.schedule.specs.Test.{charge, others, load}
use Rattle.schedule.proofs.Rest.{charge_card}
use Rattle.schedule.proofs.Rows.{put_same, put_other}
use Rattle.schedule.proofs.Sums.{sum_le, sum_same, sum_grown}
use Rattle.task.specs.Task.{Task}
use Rattle.dispatch.specs.Rows.{carded, task_at, row_of}
use Rattle.dispatch.proofs.Tests.{charge_few, charge_same}

-- a held row has the times of a card
held_times : (r : TaskRow) → carded r ≡ true → r.held ≡ true → (r.run ≤ r.deadline) × (r.deadline ≤ r.period) × (r.period ≤ 4096)
held_times r times held =
    let one = and_parts _ _ (sym (cond-true r.held _ true held) ∙ times) in
    let two = and_parts _ _ one.1 in
    let three = and_parts _ _ two.1 in
    (leb-true _ _ two.0, leb-true _ _ three.0, leb-true _ _ three.1)

-- the charges on a job with a short deadline
module _ (slot : ℕ → TaskRow) (times : (i : ℕ) → carded (slot i) ≡ true) (k n : ℕ) (short : n ≤ 4096) where
  one_few : (i : ℕ) → others slot k (charge n) i ≤ 8192
  unfolding charge
  one_few i = go (cases_Bool ((slot i).held && not (eqb i k)))
    where
      go : (((slot i).held && not (eqb i k)) ≡ true) ⊎ (((slot i).held && not (eqb i k)) ≡ false) → others slot k (charge n) i ≤ 8192
      go (inl e) =
          let other = held_times (slot i) (times i) (and_parts (slot i).held (not (eqb i k)) e).0 in
          rw e (omega (arith, charge_few n (slot i).run (slot i).period (omega (arith, other)), other))
      go (inr e) = rw e (omega arith)

  pub charges_few : sum 32 (others slot k (charge n)) ≤ 262144
  unfolding sum
  charges_few = omega (arith, sum_le 32 (others slot k (charge n)) (λ _. 8192) (λ i _. one_few i))

pub load_few : (slot : ℕ → TaskRow) → ((i : ℕ) → carded (slot i) ≡ true) → (k : ℕ) → (slot k).held ≡ true → load slot k ≤ 262144
load_few slot times k held = charges_few slot times k (slot k).deadline (omega (arith, held_times (slot k) (times k) held))

-- the sum over the numbers below n, as a list of them gives it
pub sum_listed : (n : ℕ) (f : ℕ → ℕ) → list_sum (map f (range_with_len 0 n)) ≡ sum n f
unfolding sum
sum_listed zero f = refl
sum_listed (suc n) f =
    ap (λ m. list_sum (map f (range_with_len 0 m))) (sym (add-one n)) ∙ sum_by-map-range_with_len_more (λ x. x) f 0 n n (omega arith) ∙ ap (λ s. s + f n) (sum_listed n f)

-- a row with another job: its card stays
abbrev pub Rejobbed : TaskRow → TaskRow → Type 0
Rejobbed r q = (latest : Option ℕ) × (lacking : ℕ) × (q ≡ with_job r latest lacking)

module _ (slot slot' : ℕ → TaskRow) (same : (i : ℕ) → Rejobbed (slot i) (slot' i)) (k : ℕ) where
  held_stays : (slot' k).held ≡ (slot k).held
  held_stays = ap (λ r. r.held) (same k).2

  load_stays : load slot' k ≡ load slot k
  load_stays = sum_same 32 _ _ (λ i _. one i)
    where
      one : (i : ℕ) → others slot' k (charge (slot' k).deadline) i ≡ others slot k (charge (slot k).deadline) i
      one i =
          ap (λ r. others slot' k (charge r.deadline) i) (same k).2
          ∙ ap (λ r. cond (r.held && not (eqb i k)) (charge (slot k).deadline r) 0) (same i).2
          ∙ ap (λ x. cond ((slot i).held && not (eqb i k)) x 0) (charge_card (slot k).deadline (slot i) (same i).0 (same i).1)

  pub loaded_stays : (loads : List ℕ) → (k < 32 → (slot k).held ≡ true → get_or loads k 0 ≡ load slot k) → k < 32 → (slot' k).held ≡ true → get_or loads k 0 ≡ load slot' k
  loaded_stays loads old below held = old below (sym held_stays ∙ held) ∙ sym load_stays

-- one task more, at a number that was free
module _ (slot : ℕ → TaskRow) (id : ℕ) (new : TaskRow) (below : id < 32) (free : (slot id).held ≡ false) (held : new.held ≡ true) where
  pub load_more : (k : ℕ) → (k ≡ id → ⊥) → load (put slot id new) k ≡ load slot k + charge (slot k).deadline new
  load_more k other =
      ap (λ r. sum 32 (others (put slot id new) k (charge r.deadline))) (put_other slot id new k other)
      ∙ sum_grown 32 (others slot k f) (others (put slot id new) k f) id (f new) below here there
    where
      f : TaskRow → ℕ
      f = charge (slot k).deadline

      here : others (put slot id new) k f id ≡ others slot k f id + f new
      here = rw (put_same slot id new id refl, ne_eqb id k (λ e. other (sym e)), held, free) (omega arith)

      there : (i : ℕ) → i < 32 → (i ≡ id → ⊥) → others (put slot id new) k f i ≡ others slot k f i
      there i _ ne = ap (λ r. cond (r.held && not (eqb i k)) (f r) 0) (put_other slot id new i ne)

  pub load_own : load (put slot id new) id ≡ sum 32 (others slot id (charge new.deadline))
  load_own =
      ap (λ r. sum 32 (others (put slot id new) id (charge r.deadline))) (put_same slot id new id refl)
      ∙ sum_same 32 _ _ (λ i _. go i (cases_eq i id))
    where
      itself : (i : ℕ) → i ≡ id → (r : TaskRow) → cond (r.held && not (eqb i id)) (charge new.deadline r) 0 ≡ 0
      itself i e r = cond-false _ _ 0 (and_right r.held _ (ap not (eq-eqb i id e)))

      go : (i : ℕ) → (i ≡ id) ⊎ (i ≡ id → ⊥) → others (put slot id new) id (charge new.deadline) i ≡ others slot id (charge new.deadline) i
      go i (inl e) = itself i e (put slot id new i) ∙ sym (itself i e (slot i))
      go i (inr ne) = ap (λ r. cond (r.held && not (eqb i id)) (charge new.deadline r) 0) (put_other slot id new i ne)

-- ---- loads that are worked out one after another

module _ (slot : ℕ → TaskRow) (loads : List ℕ) (k : ℕ) (full : length loads ≡ 32) (below : k < 32) (want : ℕ → ℕ) (old : (i : ℕ) → i < k → (slot i).held ≡ true → get_or loads i 0 ≡ want i) where
  pub placed : (v : ℕ) → v ≡ want k → (i : ℕ) → i < k + 1 → (slot i).held ≡ true → get_or (set loads k v) i 0 ≡ want i
  placed v is i less held = go (cases_eq i k)
    where
      go : (i ≡ k) ⊎ (i ≡ k → ⊥) → get_or (set loads k v) i 0 ≡ want i
      go (inl e) = rw e (get_or-set_same loads k v 0 (omega arith) ∙ is)
      go (inr ne) = get_or-set_other loads k i v 0 ne ∙ old i (omega arith) held

  pub passed_by : (slot k).held ≡ false → (i : ℕ) → i < k + 1 → (slot i).held ≡ true → get_or loads i 0 ≡ want i
  passed_by none i less held = go (cases_eq i k)
    where
      go : (i ≡ k) ⊎ (i ≡ k → ⊥) → get_or loads i 0 ≡ want i
      go (inl e) = absurd (true≢false (sym held ∙ ap (λ n. (slot n).held) e ∙ none))
      go (inr ne) = old i (omega arith) held

-- what one task adds to the load of another number: its charge where it is held, else nothing
pub other_adds : (slot : ℕ → TaskRow) (id n k v : ℕ) (t : Task) → (slot id).held ≡ false → (slot k).held ≡ true → t ≡ task_at k (slot k) → v ≡ charge n (row_of t) → v ≡ others slot id (charge n) k
other_adds slot id n k v t free held is e =
    e ∙ charge_same n (row_of t) (slot k) (ap (λ x. x.run) is) (ap (λ x. x.period) is)
    ∙ sym (cond-true _ _ 0 (and_from _ _ held (not_from_false _ (ne_eqb k id (λ q. true≢false (sym held ∙ ap (λ i. (slot i).held) q ∙ free))))))

pub none_adds : (slot : ℕ → TaskRow) (id n k : ℕ) → (slot k).held ≡ false → others slot id (charge n) k ≡ 0
none_adds slot id n k free = cond-false _ _ 0 (and_left (slot k).held _ free)

-- the loads with a new task's own among them
module _ (slot : ℕ → TaskRow) (id own : ℕ) (new : TaskRow) (loads : List ℕ) (full : length loads ≡ 32) (below : id < 32) (free : (slot id).held ≡ false) (held : new.held ≡ true) (own_is : own ≡ sum 32 (others slot id (charge new.deadline))) (others-are : (i : ℕ) → i < 32 → (slot i).held ≡ true → get_or loads i 0 ≡ load slot i + charge (slot i).deadline new) where
  pub with_own : (k : ℕ) → k < 32 → (put slot id new k).held ≡ true → get_or (set loads id own) k 0 ≡ load (put slot id new) k
  with_own k less there = go (cases_eq k id)
    where
      go : (k ≡ id) ⊎ (k ≡ id → ⊥) → get_or (set loads id own) k 0 ≡ load (put slot id new) k
      go (inl e) = rw e (get_or-set_same loads id own 0 (omega arith) ∙ own_is ∙ sym (load_own slot id new below free held))
      go (inr ne) =
          get_or-set_other loads id k own 0 ne
          ∙ others-are k less (ap (λ r. r.held) (sym (put_other slot id new k ne)) ∙ there)
          ∙ sym (load_more slot id new below free held k ne)

-- what each of the calls gave that filled an array, where a call leaves the closure as it was
pub filled_by : {F B : Type 0} (g : Mut F (ℕ × Unit {0}) B) (f : F) (Q : ℕ → B → Type 0) → ((i : ℕ) (y : B) (q : F) → Called g f (i, tt) y q → (q ≡ f) × Q i y) → (ys : List B) (n i : ℕ) → IsFromFnResultFrom g f ys i n → (k : ℕ) → i ≤ k → k < i + n → (d : B) → Q k (get_or ys k d)
filled_by g f Q gives ys zero i each k from to d = absurd (omega arith)
filled_by {F = F} {B = B} g f Q gives ys (suc n) i each k from to d = go (cases_eq i k) (λ q e rest. filled_by g f Q gives ys n (i + 1) (subst (λ p. IsFromFnResultFrom g p ys (i + 1) n) e rest) k)
  where
    now : (each.0 ≡ f) × Q i each.1
    now = gives i each.1 each.0 each.3

    go : (i ≡ k) ⊎ (i ≡ k → ⊥) → ((q : F) → q ≡ f → IsFromFnResultFrom g q ys (i + 1) n → i + 1 ≤ k → k < i + 1 + n → (d : B) → Q k (get_or ys k d)) → Q k (get_or ys k d)
    go (inl e) more = subst (λ j. Q j (get_or ys j d)) e (subst (Q i) (sym (each.2.1 d)) now.1)
    go (inr ne) more = more each.0 now.0 each.4 (omega arith) (omega arith) d
