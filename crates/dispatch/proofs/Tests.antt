-- The steps of the test. Assumes nothing.
use Rattle.std.proofs.Common.{◌≡◌, ℕ, zero, suc, ◌+◌, ◌*◌, ◌/◌, ◌%◌, ◌<◌, ◌≤◌, min, Bool, true, false, cond, ltb, leb, ◌⊎◌, Some, None, Option, unwrap_or, sym, refl, ap, ◌∙◌, inl, inr, mul-le-mul_left, div-mul-le_self, arith}
use Rattle.std.proofs.lemmas.Bool.{cases_eq, lt-ltb, lt-leb, le-leb, ltb-false, ne_eqb, cond-true, cond-false}
use Rattle.std.specs.Option.{MatchOption}
use Rattle.supply.specs.Windows.{within_limits}
use Rattle.schedule.specs.Row.{TaskRow}
use Rattle.schedule.specs.Test.{charge, load, serves, level_from, witness, unserved, first_unserved}
use Rattle.schedule.proofs.Searches.{least_is, least_le}
use Rattle.task.specs.Task.{Task}
use Rattle.dispatch.specs.Rows.{task_at}
use Rattle.dispatch.specs.Found.{level_found, task_found}

-- a task does no more ahead of a job than the job's deadline and one run of its own
pub charge_few : (n run period : ℕ) → run ≤ period → n / period * run + min run (n % period) ≤ n + run
charge_few n run period le = omega (arith, mul-le-mul_left (n / period) le, div-mul-le_self n period)

pub charge_same : (n : ℕ) (r q : TaskRow) → r.run ≡ q.run → r.period ≡ q.period → charge n r ≡ charge n q
unfolding charge
charge_same n r q run period = rw (run, period)

module _ (table : ℕ → ℕ → ℕ) (slot : ℕ → TaskRow) (k : ℕ) where
  pub witness_is : (j : ℕ) → 1 ≤ j → j ≤ 8 → serves table slot k j ≡ true → ((x : ℕ) → suc x < j → serves table slot k (suc x) ≡ false) → witness table slot k ≡ j
  unfolding witness
  witness_is zero one few yes' below = absurd (omega arith)
  witness_is (suc j) one few yes' below =
      ap level_from (least_is 8 (λ x. serves table slot k (suc x)) j (omega arith) (λ _. yes') (λ x h. below x (omega arith)))
      ∙ cond-true _ (suc j) 0 (lt-ltb j 8 (omega arith))

  pub witness_none : ((x : ℕ) → suc x < 9 → serves table slot k (suc x) ≡ false) → witness table slot k ≡ 0
  unfolding witness
  witness_none below = ap level_from (least_is 8 (λ x. serves table slot k (suc x)) 8 (omega arith) (λ h. absurd (omega arith)) (λ x h. below x (omega arith)))

  -- the search over the levels, with the numbers of the task's card
  module _ (t : Task) (w : ℕ) (is : t ≡ task_at k (slot k)) (few : t.deadline ≤ 8192) (loaded : w ≡ load slot k) (held : (slot k).held ≡ true) where
    abbrev pub needs : ℕ → ℕ
    needs j = j * t.run + w

    abbrev pub sure : ℕ → ℕ
    sure j = table (min j 8) (min t.deadline 8192)

    serves_at : (j : ℕ) → j ≤ 8 → serves table slot k j ≡ leb (needs j) (sure j)
    unfolding serves
    serves_at j low = sym (rw (loaded, within_limits table j t.deadline low few) (ap (λ x. leb (j * x.run + load slot k) (table j x.deadline)) is))

    not_yet : (j : ℕ) → j ≤ 9 → ((i : ℕ) → 1 ≤ i → i < j → sure i < needs i) → (x : ℕ) → suc x < j → serves table slot k (suc x) ≡ false
    not_yet j low over x h = serves_at (suc x) (omega arith) ∙ lt-leb _ _ (over (suc x) (omega arith) h)

    pub level_searched : (o : Option ℕ) → MatchOption o ((i : ℕ) → 1 ≤ i → i < 9 → sure i < needs i) (λ j. (1 ≤ j) × (j < 9) × (needs j ≤ sure j) × ((i : ℕ) → 1 ≤ i → i < j → sure i < needs i)) → o ≡ cond (slot k).held (level_found (witness table slot k)) None
    level_searched None over = sym (cond-true _ _ None held ∙ ap level_found (witness_none (not_yet 9 (omega arith) over)))
    level_searched (Some j) h =
        sym (cond-true _ _ None held ∙ ap level_found (witness_is j h.0 (omega (arith, h.1)) (serves_at j (omega (arith, h.1)) ∙ le-leb _ _ h.2) (not_yet j (omega (arith, h.1)) h.3))
        ∙ cond-false _ None (Some j) (ne_eqb j 0 (λ e. omega (arith, h.0))))

-- the search over the tasks
pub task_searched : (table : ℕ → ℕ → ℕ) (slot : ℕ → TaskRow) (o : Option ℕ) → MatchOption o ((k : ℕ) → 0 ≤ k → k < 32 → unserved table slot k ≡ false) (λ k. (0 ≤ k) × (k < 32) × (unserved table slot k ≡ true) × ((i : ℕ) → 0 ≤ i → i < k → unserved table slot i ≡ false)) → o ≡ task_found (first_unserved table slot)
unfolding first_unserved
task_searched table slot None each = sym (ap task_found (least_is 32 (unserved table slot) 32 (omega arith) (λ h. absurd (omega arith)) (λ i l. each i (omega arith) l)))
task_searched table slot (Some k) h =
    sym (ap task_found (least_is 32 (unserved table slot) k (omega (arith, h.1)) (λ _. h.2) (λ i l. h.3 i (omega arith) l)) ∙ cond-true _ (Some k) None (lt-ltb k 32 h.1))

-- what the option of a search tells
pub none_unserved : (table : ℕ → ℕ → ℕ) (slot : ℕ → TaskRow) → ltb (first_unserved table slot) 32 ≡ false → first_unserved table slot ≡ 32
unfolding first_unserved
none_unserved table slot e = omega (arith, ltb-false _ 32 e, least_le 32 (unserved table slot))

pub level_value : (b : Bool) (w : ℕ) (o : Option ℕ) → b ≡ true → o ≡ cond b (level_found w) None → unwrap_or o 0 ≡ w
level_value b w o held is = ap (λ x. unwrap_or x 0) (is ∙ cond-true b _ None held) ∙ go (cases_eq w 0)
  where
    go : (w ≡ 0) ⊎ (w ≡ 0 → ⊥) → unwrap_or (level_found w) 0 ≡ w
    go (inl e) = rw e refl
    go (inr ne) = ap (λ x. unwrap_or x 0) (cond-false _ None (Some w) (ne_eqb w 0 ne))
