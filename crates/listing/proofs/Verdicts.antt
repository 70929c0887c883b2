-- In a listing every task has its verdict. Assumes nothing.
use Rattle.std.proofs.Common.{◌≡◌, ℕ, ◌<◌, Bool, true, false, not, eqb, List, [], ◌∷◌, ◌++◌, map, Some, None, Option, sym, refl, ap, ◌∙◌, subst, inl, inr}
use Rattle.std.proofs.lemmas.Bool.{eqb-false, ne_eqb, lt-ltb, and_parts, or_parts, not-true}
use Rattle.std.specs.List.{AllByRecursion}
use Rattle.plan.specs.Rows.{has, distinct}
use Rattle.plan.proofs.Lawfulness.{reading_law}
use Rattle.schedule.specs.Calls.{ask, refusal, reply, changed, answer, answer_by, after, state_by, admitted}
use Rattle.schedule.specs.Shift.{after_all}
use Rattle.schedule.specs.State.{State, put}
use Rattle.schedule.specs.Test.{first_unserved, passes}
use Rattle.schedule.specs.declared.Answer.TheVariants.{Level as LevelIs}
use Rattle.schedule.specs.declared.Refusal.{Refusal}
use Rattle.schedule.specs.declared.Refusal.TheVariants.{NoLevel}
use Rattle.task.specs.Task.{Task, timely}
use Rattle.listing.specs.Listing.{admission, over_rack, Verdict, Verdicts}

-- ---- the task at a place of a list

all_at : {X : Type 0} (P : X → Type 0) (xs : List X) (y : X) (ys : List X) → AllByRecursion P (xs ++ y ∷ ys) → P y
all_at P [] y ys each = each.0
all_at P (x ∷ xs) y ys each = all_at P xs y ys each.1

abbrev ids : List Task → List ℕ
ids ts = map (λ t. t.id) ts

other_at : (i : ℕ) (xs : List Task) (y : Task) (ys : List Task) → has i (ids (xs ++ y ∷ ys)) ≡ false → eqb i y.id ≡ false
other_at i [] y ys none = (or_parts (eqb i y.id) _ none).0
other_at i (x ∷ xs) y ys none = other_at i xs y ys (or_parts (eqb i x.id) _ none).1

once_at : (xs : List Task) (y : Task) (ys : List Task) → distinct (ids (xs ++ y ∷ ys)) ≡ true → has y.id (ids xs) ≡ false
once_at [] y ys once = refl
once_at (x ∷ xs) y ys once =
    let first = and_parts (not (has x.id (ids (xs ++ y ∷ ys)))) _ once in
    let apart = eqb-false x.id y.id (other_at x.id xs y ys (not-true _ first.0)) in
    rw (ne_eqb y.id x.id (λ e. apart (sym e))) (once_at xs y ys first.1)

-- ---- the tasks that are held

-- a number that no admission is about stays free
still_free : (s : State) (t : Task) (i : ℕ) → (s.slot i).held ≡ false → eqb i t.id ≡ false → ((after s (admission t)).slot i).held ≡ false
still_free s t i free other = go (refusal s (admission t))
  where
    go : (o : Option Refusal) → ((state_by o s (changed s (admission t))).slot i).held ≡ false
    go None = rw other free
    go (Some r) = free

free_behind : (s : State) (ts : List Task) (i : ℕ) → (s.slot i).held ≡ false → has i (ids ts) ≡ false → ((after_all s (map admission ts)).slot i).held ≡ false
unfolding after_all
free_behind s [] i free none = free
free_behind s (t ∷ ts) i free none =
    let parts = or_parts (eqb i t.id) (has i (ids ts)) none in
    free_behind (after s (admission t)) ts i (still_free s t i free parts.0) parts.1

-- ---- the verdict

by_test : (b : Bool) (k j : ℕ) → Verdict (answer_by (ask b (NoLevel k) None) (LevelIs j))
by_test true k j = inl (j, refl)
by_test false k j = inr (k, refl)

verdict : (s : State) (t : Task) → t.id < 32 → timely t.run t.period t.deadline ≡ true → (s.slot t.id).held ≡ false → Verdict (answer s (admission t))
unfolding refusal
verdict s t below good free =
    let tasks = put s.slot t.id (admitted t.run t.period t.deadline) in
    let last : refusal s (admission t) ≡ ask (passes s.table tasks) (NoLevel (first_unserved s.table tasks)) None = rw (lt-ltb t.id 32 below, good, free) refl in
    subst (λ o. Verdict (answer_by o (reply s (admission t)))) (sym last) (by_test (passes s.table tasks) (first_unserved s.table tasks) _)

pub verdicts : (text : List ℕ) → Verdicts text
verdicts text c passed before behind t split =
    let lawful = reading_law text c passed in
    let card = all_at (λ k. (k.id < 32) × (timely k.run k.period k.deadline ≡ true)) before t behind (subst (AllByRecursion _) split lawful.cards) in
    let once = once_at before t behind (ap (λ ts. distinct (ids ts)) (sym split) ∙ lawful.once) in
    verdict (after_all (over_rack c) (map admission before)) t card.0 card.1 (free_behind (over_rack c) before t.id refl once)
