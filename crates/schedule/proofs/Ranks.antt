-- Those that run where the jobs below n are ranked by a strict order: at most g, and all g where one is left out. Assumes nothing.
use Rattle.std.proofs.Common.{◌≡◌, ℕ, zero, suc, ◌+◌, ◌<◌, ◌≤◌, Bool, true, false, cond, ◌&&◌, eqb, ltb, ◌⊎◌, refl, ap, subst, inl, inr, le_antisymm, arith}
use Rattle.std.proofs.lemmas.Bool.{cases_eq, cases_Bool, eqb-false, ltb-true, ltb-false, and_parts, and_from, both_ways}
use Rattle.schedule.specs.Counting.{sum}
use Rattle.schedule.proofs.Sums.{sum_le, sum_lt, sum_two, sum_one, sum_zero, below_or}

-- A i k: i is ranked before k
pub record StrictOrder (A : ℕ → ℕ → Bool) : Type 0 where
  pub irreflexive : (i : ℕ) → A i i ≡ false
  pub transitive : (i j k : ℕ) → A i j ≡ true → A j k ≡ true → A i k ≡ true
  pub total : (i j : ℕ) → (i ≡ j → ⊥) → (A i j ≡ true) ⊎ (A j i ≡ true)

abbrev pub one_if : Bool → ℕ
one_if b = cond b 1 0

one_le : (b c : Bool) → (b ≡ true → c ≡ true) → one_if b ≤ one_if c
one_le true c h = rw (h refl) (omega arith)
one_le false c h = omega arith

-- where one test counts and another does not, the first passes and the second fails
pub one_lt : (b c : Bool) → one_if b < one_if c → (b ≡ false) × (c ≡ true)
one_lt true true h = absurd (omega arith)
one_lt true false h = absurd (omega arith)
one_lt false true h = (refl, refl)
one_lt false false h = absurd (omega arith)

module _ (n : ℕ) (U : ℕ → Bool) (A : ℕ → ℕ → Bool) (order : StrictOrder A) (g : ℕ) where
  abbrev rank_in : ℕ → ℕ
  rank_in k = sum n (λ i. cond (U i && A i k) 1 0)

  abbrev runs_in : ℕ → Bool
  runs_in k = U k && ltb (rank_in k) g

  pub rank_lt : (i k : ℕ) → i < n → U i ≡ true → A i k ≡ true → rank_in i < rank_in k
  rank_lt i k below u a =
      sum_lt n (λ x. cond (U x && A x i) 1 0) (λ x. cond (U x && A x k) 1 0)
      (λ x _. one_le (U x && A x i) (U x && A x k) (λ e. let p = and_parts (U x) (A x i) e in and_from (U x) (A x k) p.0 (order.transitive x i k p.1 a)))
      i below (rw (u, order.irreflexive i, a) (omega arith))

  -- what runs is ranked before what is left out
  pub runs_before : (i k : ℕ) → i < n → k < n → U k ≡ true → runs_in i ≡ true → runs_in k ≡ false → A i k ≡ true
  runs_before i k below-i below-k u ri rk = go (cases_eq i k)
    where
      left_out : g ≤ rank_in k
      left_out = ltb-false (rank_in k) g (rw u at rk)

      taken : rank_in i < g
      taken = ltb-true (rank_in i) g (and_parts (U i) _ ri).1

      by : (A i k ≡ true) ⊎ (A k i ≡ true) → A i k ≡ true
      by (inl a) = a
      by (inr a) = absurd (omega (arith, rank_lt k i below-k u a, left_out, taken))

      go : (i ≡ k) ⊎ (i ≡ k → ⊥) → A i k ≡ true
      go (inl e) = absurd (omega (arith, left_out, taken, ap rank_in e))
      go (inr ne) = by (order.total i k ne)

  all_run : (fuel k : ℕ) → k < n → U k ≡ true → g ≤ rank_in k → rank_in k < fuel → g ≤ sum n (λ i. cond (runs_in i) 1 0)
  all_run zero k below u l f = absurd (omega arith)
  all_run (suc fuel) k below u l f = go (below_or n (λ i. cond (U i && A i k) 1 0) (λ i. cond (runs_in i) 1 0)) (all_run fuel)
    where
      go : ((i : ℕ) → i < n → cond (U i && A i k) 1 0 ≤ cond (runs_in i) 1 0) ⊎ ((i : ℕ) × (i < n) × (cond (runs_in i) 1 0 < cond (U i && A i k) 1 0)) → ((i : ℕ) → i < n → U i ≡ true → g ≤ rank_in i → rank_in i < fuel → g ≤ sum n (λ x. cond (runs_in x) 1 0)) → g ≤ sum n (λ i. cond (runs_in i) 1 0)
      go (inl each) ih = omega (arith, sum_le n (λ i. cond (U i && A i k) 1 0) (λ i. cond (runs_in i) 1 0) each)
      go (inr w) ih =
          let q = one_lt (runs_in w.0) (U w.0 && A w.0 k) w.2 in
          let p = and_parts (U w.0) (A w.0 k) q.1 in
          ih w.0 w.1 p.0 (ltb-false (rank_in w.0) g (rw p.0 at q.0)) (omega (arith, rank_lt w.0 k w.1 p.0 p.1))

  -- where an unfinished job is left out, all g processors run others
  pub g_run : (k : ℕ) → k < n → U k ≡ true → runs_in k ≡ false → g ≤ sum n (λ i. cond (runs_in i) 1 0)
  g_run k below u r = all_run (suc (rank_in k)) k below u (ltb-false (rank_in k) g (rw u at r)) (omega arith)

  last_runs : (fuel k : ℕ) → k < n → runs_in k ≡ true → g ≤ rank_in k + fuel → sum n (λ i. cond (runs_in i) 1 0) ≤ g
  last_runs zero k below r f = absurd (omega (arith, ltb-true (rank_in k) g (and_parts (U k) _ r).1))
  last_runs (suc fuel) k below r f = go (below_or n (λ i. cond (runs_in i) 1 0) (λ i. cond (U i && A i k) 1 0 + cond (eqb i k) 1 0)) (last_runs fuel)
    where
      taken : rank_in k < g
      taken = ltb-true (rank_in k) g (and_parts (U k) _ r).1

      next : (i : ℕ) → i < n → (runs_in i ≡ true) × (U i && A i k ≡ false) × (eqb i k ≡ false) → rank_in k < rank_in i
      next i below-i q = by (order.total i k (eqb-false i k q.2))
        where
          by : (A i k ≡ true) ⊎ (A k i ≡ true) → rank_in k < rank_in i
          by (inl a) = absurd (both_ways (U i && A i k) q.1 (and_from (U i) (A i k) (and_parts (U i) _ q.0).0 a))
          by (inr a) = rank_lt k i below (and_parts (U k) _ r).0 a

      go : ((i : ℕ) → i < n → cond (runs_in i) 1 0 ≤ cond (U i && A i k) 1 0 + cond (eqb i k) 1 0) ⊎ ((i : ℕ) × (i < n) × (cond (U i && A i k) 1 0 + cond (eqb i k) 1 0 < cond (runs_in i) 1 0)) → ((i : ℕ) → i < n → runs_in i ≡ true → g ≤ rank_in i + fuel → sum n (λ x. cond (runs_in x) 1 0) ≤ g) → sum n (λ i. cond (runs_in i) 1 0) ≤ g
      go (inl each) ih =
          omega (arith, taken, sum_zero n, sum_one n k, sum_two n (λ i. cond (runs_in i) 1 0) (λ _. 0) (λ i. cond (U i && A i k) 1 0) (λ i. cond (eqb i k) 1 0) (λ i h. omega (arith, each i h)))
      go (inr w) ih =
          let p = one_lt (U w.0 && A w.0 k) (runs_in w.0) (omega (arith, w.2)) in
          let q = one_lt (eqb w.0 k) (runs_in w.0) (omega (arith, w.2)) in
          ih w.0 w.1 p.1 (omega (arith, next w.0 w.1 (p.1, p.0, q.0)))

  -- no more than g run
  pub at_most_g : sum n (λ i. cond (runs_in i) 1 0) ≤ g
  at_most_g = go (below_or n (λ i. cond (runs_in i) 1 0) (λ _. 0))
    where
      go : ((i : ℕ) → i < n → cond (runs_in i) 1 0 ≤ 0) ⊎ ((i : ℕ) × (i < n) × (0 < cond (runs_in i) 1 0)) → sum n (λ i. cond (runs_in i) 1 0) ≤ g
      go (inl each) = omega (arith, sum_zero n, sum_le n (λ i. cond (runs_in i) 1 0) (λ _. 0) each)
      go (inr w) = last_runs g w.0 w.1 (one_lt false (runs_in w.0) w.2).1 (omega arith)

  -- where k comes before all others that are left out, g are ranked before it
  pub first_left : (k : ℕ) → k < n → U k ≡ true → runs_in k ≡ false → ((i : ℕ) → i < n → U i ≡ true → runs_in i ≡ false → (i ≡ k → ⊥) → A k i ≡ true) → rank_in k ≡ g
  first_left k below u out first = le_antisymm few (ltb-false (rank_in k) g (rw u at out))
    where
      each : (i : ℕ) → i < n → U i && A i k ≡ true → (runs_in i ≡ true) ⊎ (runs_in i ≡ false) → runs_in i ≡ true
      each i l e (inl r) = r
      each i l e (inr o) =
          let p = and_parts (U i) (A i k) e in
          let apart : i ≡ k → ⊥ = λ q. both_ways (A k k) (order.irreflexive k) (subst (λ x. A x k ≡ true) q p.1) in
          absurd (both_ways (A i i) (order.irreflexive i) (order.transitive i k i p.1 (first i l p.0 o apart)))

      few : rank_in k ≤ g
      few = omega (arith, at_most_g, sum_le n (λ i. cond (U i && A i k) 1 0) (λ i. cond (runs_in i) 1 0) (λ i l. one_le (U i && A i k) (runs_in i) (λ e. each i l e (cases_Bool (runs_in i)))))
