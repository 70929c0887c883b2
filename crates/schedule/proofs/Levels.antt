-- What the test finds, and the one fact of it that the promise rests on. Assumes nothing.
use Rattle.std.proofs.Common.{◌≡◌, ℕ, zero, suc, ◌+◌, ◌-◌, ◌*◌, ◌<◌, ◌≤◌, Bool, true, false, cond, ◌⊎◌, ap, ◌∙◌, inl, inr, mul-one, mul-add, arith}
use Rattle.std.proofs.lemmas.Bool.{cases_lt, lt-ltb, le-ltb, leb-true, le-leb, eqb-true, eqb-false, and_parts, both_ways}
use Rattle.schedule.specs.Row.{TaskRow}
use Rattle.schedule.specs.Counting.{sum, least}
use Rattle.schedule.specs.Test.{charge, others, load, serves, witness, level_from, unserved, first_unserved, passes, LeastLevel, NoLevelServes, TestLaw}
use Rattle.schedule.proofs.Searches.{least_passes, least_below}

-- a search over eight levels that came to x
level_of : (x : ℕ) → ((x < 8) × (level_from x ≡ suc x)) ⊎ ((8 ≤ x) × (level_from x ≡ 0))
level_of x = go (cases_lt x 8)
  where
    go : (x < 8) ⊎ (8 ≤ x) → ((x < 8) × (level_from x ≡ suc x)) ⊎ ((8 ≤ x) × (level_from x ≡ 0))
    go (inl h) = inl (h, ap (λ b. cond b (suc x) 0) (lt-ltb x 8 h))
    go (inr h) = inr (h, ap (λ b. cond b (suc x) 0) (le-ltb x 8 h))

from_search : (p : ℕ → Bool) (i x : ℕ) → 1 ≤ i → i ≤ x → ((y : ℕ) → y < x → p (suc y) ≡ false) → p i ≡ false
from_search p zero x h l each = absurd (omega arith)
from_search p (suc i) x h l each = each i (omega arith)

pub found : (table : ℕ → ℕ → ℕ) (slot : ℕ → TaskRow) (k : ℕ) → 0 < witness table slot k → LeastLevel table slot k (witness table slot k)
unfolding witness
found table slot k pos = go (level_of (least 8 at))
  where
    at : ℕ → Bool
    at x = serves table slot k (suc x)

    go : ((least 8 at < 8) × (level_from (least 8 at) ≡ suc (least 8 at))) ⊎ ((8 ≤ least 8 at) × (level_from (least 8 at) ≡ 0)) → LeastLevel table slot k (level_from (least 8 at))
    go (inl h) = rw h.1 (omega arith, omega (arith, h.0), least_passes 8 at h.0, λ i one less. from_search (serves table slot k) i (least 8 at) one (omega arith) (least_below 8 at))
    go (inr h) = absurd (omega (arith, h.1))

pub none : (table : ℕ → ℕ → ℕ) (slot : ℕ → TaskRow) (k : ℕ) → witness table slot k ≡ 0 → NoLevelServes table slot k
unfolding witness
none table slot k e = go (level_of (least 8 at))
  where
    at : ℕ → Bool
    at x = serves table slot k (suc x)

    go : ((least 8 at < 8) × (level_from (least 8 at) ≡ suc (least 8 at))) ⊎ ((8 ≤ least 8 at) × (level_from (least 8 at) ≡ 0)) → NoLevelServes table slot k
    go (inl h) = absurd (omega (arith, h.1))
    go (inr h) = λ j one eight. from_search (serves table slot k) j (least 8 at) one (omega (arith, h.0)) (least_below 8 at)

-- a held task that is not without a witness has one
pub served : (table : ℕ → ℕ → ℕ) (slot : ℕ → TaskRow) (k : ℕ) → unserved table slot k ≡ false → (slot k).held ≡ true → LeastLevel table slot k (witness table slot k)
served table slot k u held = found table slot k (omega (arith, eqb-false (witness table slot k) 0 (rw held at u)))

pub test_means : TestLaw
unfolding first_unserved
test_means table slot =
    record {
      found = found table slot;
      none = none table slot;
      named = λ h. let p = and_parts (slot (first_unserved table slot)).held _ (least_passes 32 (unserved table slot) h) in (p.0, none table slot _ (eqb-true _ 0 p.1));
      lower = λ k h held. served table slot k (least_below 32 (unserved table slot) k h) held;
    }

-- where the test passes, every held task has a witness
pub all_served : (table : ℕ → ℕ → ℕ) (slot : ℕ → TaskRow) → passes table slot ≡ true → (k : ℕ) → k < 32 → (slot k).held ≡ true → LeastLevel table slot k (witness table slot k)
unfolding first_unserved
all_served table slot h k below held = served table slot k (least_below 32 (unserved table slot) k (omega (arith, eqb-true (least 32 (unserved table slot)) 32 h))) held

-- where a level serves, there is a witness
pub some_serves : (table : ℕ → ℕ → ℕ) (slot : ℕ → TaskRow) (k j : ℕ) → 1 ≤ j → j ≤ 8 → serves table slot k j ≡ true → LeastLevel table slot k (witness table slot k)
some_serves table slot k j one eight h = go (cases_lt 0 (witness table slot k))
  where
    go : (0 < witness table slot k) ⊎ (witness table slot k ≤ 0) → LeastLevel table slot k (witness table slot k)
    go (inl p) = found table slot k p
    go (inr z) = absurd (both_ways (serves table slot k j) (none table slot k (omega arith) j one eight) h)

-- a level that serves leaves room: with one tick of the run time still lacking, not all that is sure to come can have been used up
pub serving_covers : (table : ℕ → ℕ → ℕ) (slot : ℕ → TaskRow) (k j : ℕ) → 1 ≤ j → 1 ≤ (slot k).run → serves table slot k j ≡ true → j * ((slot k).run - 1) + load slot k < table j (slot k).deadline
unfolding serves
serving_covers table slot k j j1 r1 h =
    let m : j * (slot k).run ≡ j * ((slot k).run - 1) + j = ap (λ x. j * x) (omega arith) ∙ mul-add j ((slot k).run - 1) 1 ∙ ap (λ x. j * ((slot k).run - 1) + x) (mul-one j) in
    omega (arith, m, leb-true _ _ h)

-- a level that serves a task goes on serving it while its card stays and the load does not grow
pub serves_kept : (table : ℕ → ℕ → ℕ) (slot slot' : ℕ → TaskRow) (k j : ℕ) → (slot' k).run ≡ (slot k).run → (slot' k).deadline ≡ (slot k).deadline → sum 32 (others slot' k (charge (slot k).deadline)) ≤ load slot k → serves table slot k j ≡ true → serves table slot' k j ≡ true
unfolding serves
serves_kept table slot slot' k j run deadline less h = le-leb _ _ (rw (run, deadline) (omega (arith, less, leb-true _ _ h)))
