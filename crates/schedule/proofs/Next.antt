-- The job that one processor more lets run is the first-ranked of those that were left out. Assumes nothing.
use Rattle.std.proofs.Common.{◌≡◌, ℕ, ◌+◌, ◌^◌, ◌<◌, ◌≤◌, Bool, true, false, cond, ◌&&◌, ltb, ◌⊎◌, sym, refl, ap, ◌∙◌, inl, inr, arith}
use Rattle.std.proofs.lemmas.Bool.{cases_Bool, lt-ltb, le-ltb, ltb-true, ltb-false, and_parts, and_from, and_right}
use Rattle.schedule.specs.Row.{TaskRow}
use Rattle.schedule.specs.Order.{unfinished, ahead, rank, runs, word}
use Rattle.schedule.proofs.Sums.{sum_same, sum_grown, sum_zero}
use Rattle.schedule.proofs.Ranks.{rank_lt, first_left}
use Rattle.schedule.proofs.Jobs.{ahead_order}

-- k is unfinished, it does not run on g processors, and it is ranked before all others of which that is so
pub record NextJob (slot : ℕ → TaskRow) (g k : ℕ) : Type 0 where
  pub below : k < 32
  pub waits : unfinished (slot k) ≡ true
  pub out : runs slot g k ≡ false
  pub first : (i : ℕ) → i < 32 → unfinished (slot i) ≡ true → runs slot g i ≡ false → (i ≡ k → ⊥) → ahead slot k i ≡ true

pub runs_none : (slot : ℕ → TaskRow) (i : ℕ) → runs slot 0 i ≡ false
runs_none slot i = and_right (unfinished (slot i)) _ (le-ltb (rank slot i) 0 (omega arith))

pub word_none : (slot : ℕ → TaskRow) → word slot 0 ≡ 0
unfolding word
word_none slot = sum_same 32 (λ i. cond (runs slot 0 i) (2 ^ i) 0) (λ _. 0) (λ i _. ap (λ b. cond b (2 ^ i) 0) (runs_none slot i)) ∙ sum_zero 32

-- a test on a number that is not g does not tell g from g + 1
same_test : (u : Bool) (r g : ℕ) → (u ≡ true → r ≡ g → ⊥) → u && ltb r (g + 1) ≡ u && ltb r g
same_test false r g h = refl
same_test true r g h = go (cases_Bool (ltb r g))
  where
    go : (ltb r g ≡ true) ⊎ (ltb r g ≡ false) → ltb r (g + 1) ≡ ltb r g
    go (inl t) = lt-ltb r (g + 1) (omega (arith, ltb-true r g t)) ∙ sym t
    go (inr f) = le-ltb r (g + 1) (let ne : r ≡ g → ⊥ = h refl in let l : g ≤ r = ltb-false r g f in omega arith) ∙ sym f

module _ (slot : ℕ → TaskRow) (g k : ℕ) (next : NextJob slot g k) where
  rank_next : rank slot k ≡ g
  unfolding rank
  rank_next = first_left 32 (λ i. unfinished (slot i)) (ahead slot) (ahead_order slot) g k next.below next.waits next.out next.first

  pub runs_next : runs slot (g + 1) k ≡ true
  runs_next = and_from (unfinished (slot k)) _ next.waits (lt-ltb (rank slot k) (g + 1) (omega (arith, rank_next)))

  rank_behind : (i : ℕ) → ahead slot k i ≡ true → g < rank slot i
  unfolding rank
  rank_behind i a = omega (arith, rank_next, rank_lt 32 (λ x. unfinished (slot x)) (ahead slot) (ahead_order slot) g k i next.below next.waits a)

  pub runs_others : (i : ℕ) → i < 32 → (i ≡ k → ⊥) → runs slot (g + 1) i ≡ runs slot g i
  runs_others i below ne = same_test (unfinished (slot i)) (rank slot i) g (λ u e. omega (arith, rank_behind i (next.first i below u (rw (u, e) (le-ltb g g (omega arith))) ne)))

  pub word_next : word slot (g + 1) ≡ word slot g + 2 ^ k
  unfolding word
  word_next =
      sum_grown 32 (λ i. cond (runs slot g i) (2 ^ i) 0) (λ i. cond (runs slot (g + 1) i) (2 ^ i) 0) k (2 ^ k)
      next.below (rw (runs_next, next.out) (omega arith)) (λ i below ne. ap (λ b. cond b (2 ^ i) 0) (runs_others i below ne))

-- where none is left out, more processors change nothing
pub word_whole : (slot : ℕ → TaskRow) (g h : ℕ) → g ≤ h → ((i : ℕ) → i < 32 → unfinished (slot i) ≡ true → runs slot g i ≡ true) → word slot h ≡ word slot g
unfolding word
word_whole slot g h more all = sum_same 32 (λ i. cond (runs slot h i) (2 ^ i) 0) (λ i. cond (runs slot g i) (2 ^ i) 0) (λ i below. ap (λ b. cond b (2 ^ i) 0) (same i (cases_Bool (unfinished (slot i))) (all i below)))
  where
    same : (i : ℕ) → (unfinished (slot i) ≡ true) ⊎ (unfinished (slot i) ≡ false) → (unfinished (slot i) ≡ true → runs slot g i ≡ true) → runs slot h i ≡ runs slot g i
    same i (inr f) r = rw f refl
    same i (inl u) r = and_from (unfinished (slot i)) _ u (lt-ltb (rank slot i) h (omega (arith, ltb-true (rank slot i) g (and_parts (unfinished (slot i)) _ (r u)).1))) ∙ sym (r u)
