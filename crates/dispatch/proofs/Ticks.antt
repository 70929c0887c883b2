-- A tick, as it goes over the keys of the jobs that run, the soonest last. Assumes nothing.
use Rattle.std.proofs.Common.{◌≡◌, ℕ, ◌+◌, ◌-◌, ◌*◌, ◌%◌, ◌^◌, ◌<◌, ◌≤◌, Bool, true, false, cond, not, ◌&&◌, ◌||◌, eqb, ltb, leb, ◌⊎◌, List, length, Option, get_or, set, sym, refl, ap, ◌∙◌, subst, inl, inr, arith, length-set}
use native.Mathlib.Nat.{sub-zero}
use lib.Bits.{bit_or}
use Rattle.std.proofs.lemmas.Nat.{one_shl}
use Rattle.std.proofs.lemmas.Bool.{cases_eq, cases_Bool, and_from, and_right, and_parts, lt-ltb, le-ltb, le-leb, lt-leb, ltb-true, or_left, not_from_false}
use Rattle.std.proofs.lemmas.Bool.Decides.{nat_tests}
use Rattle.schedule.specs.Row.{TaskRow}
use Rattle.schedule.specs.Counting.{sum}
use Rattle.schedule.specs.Order.{unfinished, rank, runs, word, names, spent}
use Rattle.schedule.specs.State.{put, with_job}
use Rattle.schedule.proofs.Rows.{put_same, put_other}
use Rattle.schedule.proofs.Sums.{sum_same, sum_grown, sum_zero}
use Rattle.schedule.proofs.Words.{names_at}
use Rattle.dispatch.specs.Keys.{key_of, id_of, keyed, waits, among, Kept}
use Rattle.dispatch.specs.Rows.{row_said, slots}
use Rattle.dispatch.specs.declared.held_task.HeldTask.{HeldTask}
use Rattle.dispatch.proofs.Keys.{among_place, Filtered}
use Rattle.dispatch.proofs.Places.{InOrder, number_key, number_below, at_place, place_of, rank_place}
use Rattle.dispatch.proofs.Tables.{slots_set}
use Rattle.dispatch.proofs.Words.{bit_set}

-- i runs on one of g processors, and m others or more are ranked before it
abbrev pub ran : (ℕ → TaskRow) → ℕ → ℕ → ℕ → Bool
ran slot g m i = runs slot g i && leb m (rank slot i)

-- the key stays: its job does not run, or lacks more than a tick
abbrev pub stays : (ℕ → TaskRow) → ℕ → ℕ → Bool
stays slot g x = not (runs slot g (id_of x)) || ltb 1 (slot (id_of x)).lacking

-- the rows and the word in a tick on g processors, where all that run have had theirs but the m that are ranked first
pub record Ran (slot : ℕ → TaskRow) (g m : ℕ) (rows : List (Option HeldTask)) (w : ℕ) : Type 0 where
  pub full : length rows ≡ 32
  pub each : (i : ℕ) → slots rows i ≡ spent (ran slot g m i) (slot i)
  pub word : w ≡ sum 32 (λ i. cond (ran slot g m i) (2 ^ i) 0)

spent_none : (r : TaskRow) → spent false r ≡ r
spent_none r = ap (with_job r r.latest) (sub-zero r.lacking)

first_test : (r p n g first : ℕ) → first ≡ n - g → r + p + 1 ≡ n → ltb r g && leb (n - first) r ≡ false
first_test r p n g first is e = grind (arith, nat_tests)

next_test : (a : Bool) (r m : ℕ) → (r ≡ m → ⊥) → a && leb m r ≡ a && leb (m + 1) r
next_test a r m ne = ap (λ b. a && b) (grind (arith, nat_tests))

-- a tick on g processors goes over the keys from place first on
module _ (slot : ℕ → TaskRow) (keys : List ℕ) (n : ℕ) (kept : InOrder slot keys n) (within : (i : ℕ) → unfinished (slot i) ≡ true → i < 32) (g first : ℕ) (from : first ≡ n - g) where
  -- an unfinished job with its place and rank
  placed : (i : ℕ) → unfinished (slot i) ≡ true → (p : ℕ) × (p < n) × (get_or keys p 0 ≡ key_of i (slot i)) × (rank slot i + p + 1 ≡ n)
  placed i u = let w = place_of slot keys n kept i (within i u) u in (w.0, w.1, w.2, rank_place slot keys n kept w.0 i w.1 (within i u) w.2)

  -- the key at a place with its job
  job_at : (p key : ℕ) → p < n → key ≡ get_or keys p 0 → (unfinished (slot (id_of key)) ≡ true) × (rank slot (id_of key) + p + 1 ≡ n)
  job_at p key below is =
      let its = subst (λ x. (unfinished (slot (id_of x)) ≡ true) × (key_of (id_of x) (slot (id_of x)) ≡ x)) (sym is) (at_place slot keys n kept p below) in
      (its.0, rank_place slot keys n kept p (id_of key) below (number_below key) (sym is ∙ sym its.1))

  ran_none : (i : ℕ) → ran slot g (n - first) i ≡ false
  ran_none i = go (cases_Bool (unfinished (slot i)))
    where
      go : (unfinished (slot i) ≡ true) ⊎ (unfinished (slot i) ≡ false) → ran slot g (n - first) i ≡ false
      go (inl u) = rw u (first_test (rank slot i) (placed i u).0 n g first from (placed i u).3)
      go (inr f) = rw f refl

  pub ran_first : (rows : List (Option HeldTask)) → length rows ≡ 32 → ((i : ℕ) → slots rows i ≡ slot i) → Ran slot g (n - first) rows 0
  ran_first rows full same =
      record {
        full = full;
        each = λ i. same i ∙ sym (ap (λ b. spent b (slot i)) (ran_none i) ∙ spent_none (slot i));
        word = sym (sum_same 32 _ (λ _. 0) (λ i _. ap (λ b. cond b (2 ^ i) 0) (ran_none i)) ∙ sum_zero 32);
      }

  -- the keys in front of that place stay
  pub stays_first : (x : ℕ) → among keys first x ≡ true → stays slot g x ≡ true
  stays_first x h =
      let w = (among_place keys x first).0 h in
      let its = job_at w.0 x (omega (arith, w.1)) (sym w.2) in
      or_left _ _ (not_from_false _ (and_right _ _ (le-ltb (rank slot (id_of x)) g (omega (arith, its.1, w.1)))))

  module _ (p key : ℕ) (below : p < n) (goes : first ≤ p) (is : key ≡ get_or keys p 0) where
    abbrev k : ℕ
    k = id_of key

    here : unfinished (slot k) ≡ true
    here = (job_at p key below is).0

    rank_here : rank slot k + p + 1 ≡ n
    rank_here = (job_at p key below is).1

    runs_here : runs slot g k ≡ true
    runs_here = and_from _ _ here (lt-ltb (rank slot k) g (omega (arith, rank_here)))

    not_yet : ran slot g (n - p) k ≡ false
    not_yet = and_right _ _ (lt-leb (n - p) (rank slot k) (omega (arith, rank_here)))

    ran_now : ran slot g (n - (p + 1)) k ≡ true
    ran_now = and_from _ _ runs_here (le-leb (n - (p + 1)) (rank slot k) (omega (arith, rank_here)))

    ran_others : (i : ℕ) → (i ≡ k → ⊥) → ran slot g (n - (p + 1)) i ≡ ran slot g (n - p) i
    ran_others i ne = go (cases_Bool (unfinished (slot i)))
      where
        go : (unfinished (slot i) ≡ true) ⊎ (unfinished (slot i) ≡ false) → ran slot g (n - (p + 1)) i ≡ ran slot g (n - p) i
        go (inr f) = rw f refl
        go (inl u) =
            let w = placed i u in
            let apart : w.0 ≡ p → ⊥ = λ e. ne (sym (number_key i (slot i) (within i u)) ∙ ap id_of (sym w.2 ∙ ap (λ q. get_or keys q 0) e ∙ sym is)) in
            next_test (runs slot g i) (rank slot i) (n - (p + 1)) (λ e. apart (omega (arith, w.3))) ∙ ap (λ m. runs slot g i && leb m (rank slot i)) (omega arith)

    module _ (rows : List (Option HeldTask)) (w : ℕ) (so : Ran slot g (n - p) rows w) where
      -- the row of the next key is still as it was
      pub row_here : slots rows k ≡ slot k
      row_here = so.each k ∙ ap (λ b. spent b (slot k)) not_yet ∙ spent_none (slot k)

      pub lacks_here : 0 < (slots rows k).lacking
      lacks_here = omega (arith, ap (λ r. r.lacking) row_here, ltb-true 0 (slot k).lacking (and_parts _ _ here).1)

      -- its key stays, where it lacks more than this tick
      pub stays_here : stays slot g key ≡ ltb 1 (slots rows k).lacking
      stays_here = ap (λ b. not b || ltb 1 (slot k).lacking) runs_here ∙ ap (λ r. ltb 1 r.lacking) (sym row_here)

      pub ran_more : (o : Option HeldTask) → row_said o ≡ spent true (slots rows k) → Ran slot g (n - (p + 1)) (set rows k o) (bit_or w ((1 * 2 ^ k) % 2 ^ 32))
      ran_more o spends = record { full = length-set rows k o ∙ so.full; each = λ i. slots_set rows k o inside i ∙ each i (cases_eq i k); word = bit ∙ sym grown }
        where
          inside : k < length rows
          inside = omega (arith, so.full, number_below key)

          each : (i : ℕ) → (i ≡ k) ⊎ (i ≡ k → ⊥) → put (slots rows) k (row_said o) i ≡ spent (ran slot g (n - (p + 1)) i) (slot i)
          each i (inl e) = put_same (slots rows) k (row_said o) i e ∙ spends ∙ ap (spent true) row_here ∙ ap (λ b. spent b (slot k)) (sym ran_now) ∙ ap (λ j. spent (ran slot g (n - (p + 1)) j) (slot j)) (sym e)
          each i (inr ne) = put_other (slots rows) k (row_said o) i ne ∙ so.each i ∙ ap (λ b. spent b (slot i)) (sym (ran_others i ne))

          grown : sum 32 (λ i. cond (ran slot g (n - (p + 1)) i) (2 ^ i) 0) ≡ w + 2 ^ k
          grown =
              sum_grown 32 (λ i. cond (ran slot g (n - p) i) (2 ^ i) 0) (λ i. cond (ran slot g (n - (p + 1)) i) (2 ^ i) 0) k (2 ^ k)
              (number_below key) (rw (ran_now, not_yet) (omega arith)) (λ i _ ne. ap (λ b. cond b (2 ^ i) 0) (ran_others i ne))
              ∙ ap (λ v. v + 2 ^ k) (sym so.word)

          free : names w k ≡ 0
          free = ap (λ v. names v k) so.word ∙ names_at 32 (ran slot g (n - p)) k (number_below key) ∙ rw not_yet refl

          bit : bit_or w ((1 * 2 ^ k) % 2 ^ 32) ≡ w + 2 ^ k
          bit = ap (bit_or w) (one_shl k 32 (number_below key)) ∙ bit_set w k free

ran_whole : (slot : ℕ → TaskRow) (g i : ℕ) → ran slot g 0 i ≡ runs slot g i
ran_whole slot g i = go (runs slot g i)
  where
    go : (b : Bool) → b && leb 0 (rank slot i) ≡ b
    go true = le-leb 0 (rank slot i) (omega arith)
    go false = refl

-- the keys that stay are those of the jobs that are unfinished behind the tick
still : (held : Bool) (l : ℕ) (own b : Bool) → ((held && ltb 0 l) && own) && (not b || ltb 1 l) ≡ (held && ltb 0 (l - cond b 1 0)) && own
still false l own b = refl
still true l own true = grind (arith, nat_tests)
still true l own false = grind (arith, nat_tests)

module _ (slot : ℕ → TaskRow) (g : ℕ) (rows : List (Option HeldTask)) (w : ℕ) (so : Ran slot g 0 rows w) where
  pub rows_behind : (i : ℕ) → slots rows i ≡ spent (runs slot g i) (slot i)
  rows_behind i = so.each i ∙ ap (λ b. spent b (slot i)) (ran_whole slot g i)

  pub word_behind : w ≡ word slot g
  unfolding word
  word_behind = so.word ∙ sum_same 32 _ _ (λ i _. ap (λ b. cond b (2 ^ i) 0) (ran_whole slot g i))

  waits_behind : (x : ℕ) → waits slot x && stays slot g x ≡ waits (slots rows) x
  unfolding waits
  waits_behind x =
      let i = id_of x in
      still (slot i).held (slot i).lacking (eqb (key_of i (slot i)) x) (runs slot g i) ∙ ap (λ r. keyed i r x) (sym (rows_behind i))

  pub kept_behind : (old keys : List ℕ) (n place : ℕ) → Kept slot old n → Filtered old keys place n (stays slot g) → Kept (slots rows) keys place
  kept_behind old keys n place kept so x = so.holds x ∙ ap (λ b. b && stays slot g x) (kept x) ∙ waits_behind x
