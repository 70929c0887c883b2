-- The job whose key stands at a place has as many ranked before it as there are keys behind. Assumes nothing.
use Rattle.std.proofs.Common.{◌≡◌, ℕ, zero, suc, ◌+◌, ◌-◌, ◌*◌, ◌<◌, ◌≤◌, Bool, true, false, cond, ◌&&◌, ◌||◌, eqb, ltb, ◌⊎◌, List, get_or, sym, refl, ap, ◌∙◌, inl, inr, arith}
use Rattle.std.proofs.lemmas.Nat.{mod-mul-add, mod_below}
use Rattle.std.proofs.lemmas.Bool.{cases_Bool, cases_order, cases_lt, and_parts, and_from, and_left, and_right, eqb-true, eq-eqb, lt-ltb, le-ltb}
use Rattle.std.proofs.lemmas.Bool.Decides.{nat_tests}
use Rattle.schedule.specs.Row.{TaskRow}
use Rattle.schedule.specs.Counting.{sum}
use Rattle.schedule.specs.Order.{unfinished, due, ahead, rank}
use Rattle.schedule.proofs.Sums.{sum_same, sum_grown, sum_zero, sum_lt}
use Rattle.dispatch.specs.Keys.{key_of, id_of, waits, Sorted, Kept}
use Rattle.dispatch.proofs.Keys.{among_place}

pub number_key : (i : ℕ) (r : TaskRow) → i < 32 → id_of (key_of i r) ≡ i
number_key i r below = mod-mul-add (due r) 32 i below

pub number_below : (x : ℕ) → id_of x < 32
number_below x = mod_below x 32 (omega arith)

key_order : (a i b k : ℕ) → i < 32 → k < 32 → ltb a b || (eqb a b && ltb i k) ≡ ltb (a * 32 + i) (b * 32 + k)
key_order a i b k h l = grind (arith, nat_tests)

-- how many unfinished jobs have a key below x
abbrev below : (ℕ → TaskRow) → ℕ → ℕ
below slot x = sum 32 (λ i. cond (unfinished (slot i) && ltb (key_of i (slot i)) x) 1 0)

rank_below : (slot : ℕ → TaskRow) (k : ℕ) → k < 32 → rank slot k ≡ below slot (key_of k (slot k))
unfolding rank ahead
rank_below slot k h = sum_same 32 _ _ (λ i l. ap (λ b. cond (unfinished (slot i) && b) 1 0) (key_order (due (slot i)) i (due (slot k)) k l h))

part : (a b : Bool) → cond (a && b) 1 0 ≤ cond a 1 0
part true true = omega arith
part true false = omega arith
part false b = omega arith

ones : sum 32 (λ _. 1) ≡ 32
unfolding sum
ones = refl

-- the first n keys are those of the unfinished jobs, in order
pub record InOrder (slot : ℕ → TaskRow) (keys : List ℕ) (n : ℕ) : Type 0 where
  pub sorted : Sorted keys n
  pub holds : Kept slot keys n

module _ (slot : ℕ → TaskRow) (keys : List ℕ) (n : ℕ) (kept : InOrder slot keys n) where
  -- the key at a place is that of an unfinished job
  pub at_place : (p : ℕ) → p < n → (unfinished (slot (id_of (get_or keys p 0))) ≡ true) × (key_of (id_of (get_or keys p 0)) (slot (id_of (get_or keys p 0))) ≡ get_or keys p 0)
  unfolding waits
  at_place p h =
      let both = and_parts _ _ (sym (kept.holds (get_or keys p 0)) ∙ (among_place keys (get_or keys p 0) n).1 (p, h, refl)) in
      (both.0, eqb-true _ _ both.1)

  -- the key of an unfinished job stands at a place
  pub place_of : (i : ℕ) → i < 32 → unfinished (slot i) ≡ true → (p : ℕ) × (p < n) × (get_or keys p 0 ≡ key_of i (slot i))
  unfolding waits
  place_of i h u =
      let here : waits slot (key_of i (slot i)) ≡ true = rw (number_key i (slot i) h) (and_from _ _ u (eq-eqb _ _ refl)) in
      (among_place keys (key_of i (slot i)) n).0 (kept.holds (key_of i (slot i)) ∙ here)

  abbrev sooner : ℕ → ℕ → Bool
  sooner p i = unfinished (slot i) && ltb (key_of i (slot i)) (get_or keys p 0)

  -- whether a job's key is below that at a place tells whether it stands behind it
  behind : (p i : ℕ) → p < n → (w : (q : ℕ) × (q < n) × (get_or keys q 0 ≡ key_of i (slot i))) → ltb (key_of i (slot i)) (get_or keys p 0) ≡ ltb p w.0
  behind p i h w = go (cases_order p w.0)
    where
      go : (p ≡ w.0) ⊎ ((p < w.0) ⊎ (w.0 < p)) → ltb (key_of i (slot i)) (get_or keys p 0) ≡ ltb p w.0
      go (inl e) = le-ltb _ _ (omega (arith, w.2, ap (λ k. get_or keys k 0) e)) ∙ sym (le-ltb p w.0 (omega arith))
      go (inr (inl l)) = lt-ltb _ _ (omega (arith, w.2, kept.sorted.ordered p w.0 (l, w.1))) ∙ sym (lt-ltb p w.0 l)
      go (inr (inr l)) = le-ltb _ _ (omega (arith, w.2, kept.sorted.ordered w.0 p (l, h))) ∙ sym (le-ltb p w.0 (omega arith))

  last_place : (p i : ℕ) → p + 1 ≡ n → i < 32 → (unfinished (slot i) ≡ true) ⊎ (unfinished (slot i) ≡ false) → sooner p i ≡ false
  last_place p i e h (inr f) = and_left _ _ f
  last_place p i e h (inl u) = let w = place_of i h u in and_right _ _ (behind p i (omega arith) w ∙ le-ltb p w.0 (omega (arith, w.1)))

  other_place : (p i : ℕ) → p + 1 < n → i < 32 → (i ≡ id_of (get_or keys (p + 1) 0) → ⊥) → (unfinished (slot i) ≡ true) ⊎ (unfinished (slot i) ≡ false) → sooner p i ≡ sooner (p + 1) i
  other_place p i l h ne (inr f) = rw f refl
  other_place p i l h ne (inl u) = go (place_of i h u)
    where
      go : (q : ℕ) × (q < n) × (get_or keys q 0 ≡ key_of i (slot i)) → sooner p i ≡ sooner (p + 1) i
      go w =
          let apart : w.0 ≡ p + 1 → ⊥ = λ e. ne (sym (number_key i (slot i) h) ∙ ap id_of (sym w.2 ∙ ap (λ k. get_or keys k 0) e)) in
          let same : ltb p w.0 ≡ ltb (p + 1) w.0 = grind (arith, nat_tests) in
          ap (λ b. unfinished (slot i) && b) (behind p i (omega arith) w ∙ same ∙ sym (behind (p + 1) i l w))

  below_place : (j p : ℕ) → p + j + 1 ≡ n → below slot (get_or keys p 0) ≡ j
  below_place zero p e = sum_same 32 _ (λ _. 0) (λ i h. ap (λ b. cond b 1 0) (last_place p i (omega arith) h (cases_Bool (unfinished (slot i))))) ∙ sum_zero 32
  below_place (suc j) p e =
      let k : ℕ = id_of (get_or keys (p + 1) 0) in
      let next = at_place (p + 1) (omega arith) in
      let less = kept.sorted.ordered p (p + 1) (omega arith, omega arith) in
      let now : sooner p k ≡ true = and_from _ _ next.0 (lt-ltb (key_of k (slot k)) (get_or keys p 0) (omega (arith, next.1, less))) in
      let not_yet : sooner (p + 1) k ≡ false = and_right _ _ (le-ltb (key_of k (slot k)) (get_or keys (p + 1) 0) (omega (arith, next.1))) in
      let step : below slot (get_or keys p 0) ≡ below slot (get_or keys (p + 1) 0) + 1 =
      sum_grown 32 (λ i. cond (sooner (p + 1) i) 1 0) (λ i. cond (sooner p i) 1 0) k 1
      (number_below (get_or keys (p + 1) 0)) (rw (now, not_yet) refl) (λ i h ne. ap (λ b. cond b 1 0) (other_place p i (omega arith) h ne (cases_Bool (unfinished (slot i))))) in
      omega (arith, step, below_place j (p + 1) (omega arith))

  -- as many are ranked before a job as there are keys behind its own
  pub rank_place : (p i : ℕ) → p < n → i < 32 → get_or keys p 0 ≡ key_of i (slot i) → rank slot i + p + 1 ≡ n
  rank_place p i h l e = omega (arith, rank_below slot i l, ap (below slot) e, below_place (n - p - 1) p (omega arith))

  -- there is a free place while a job is finished
  pub room_left : (id : ℕ) → id < 32 → unfinished (slot id) ≡ false → n < 32
  room_left id h f = go (cases_lt 0 n)
    where
      go : (0 < n) ⊎ (n ≤ 0) → n < 32
      go (inr none) = omega arith
      go (inl some) =
          let k : ℕ = id_of (get_or keys 0 0) in
          let first = at_place 0 some in
          let own : sooner 0 k ≡ false = and_right _ _ (le-ltb (key_of k (slot k)) (get_or keys 0 0) (omega (arith, first.1))) in
          let fewer : below slot (get_or keys 0 0) < sum 32 (λ i. cond (unfinished (slot i)) 1 0) =
          sum_lt 32 (λ i. cond (sooner 0 i) 1 0) (λ i. cond (unfinished (slot i)) 1 0) (λ i _. part (unfinished (slot i)) (ltb (key_of i (slot i)) (get_or keys 0 0)))
          k (number_below (get_or keys 0 0)) (rw (own, first.0) (omega arith)) in
          let most : sum 32 (λ i. cond (unfinished (slot i)) 1 0) < sum 32 (λ _. 1) =
          sum_lt 32 (λ i. cond (unfinished (slot i)) 1 0) (λ _. 1) (λ i _. part true (unfinished (slot i))) id h (rw f (omega arith)) in
          omega (arith, fewer, most, ones, below_place (n - 1) 0 (omega arith))
