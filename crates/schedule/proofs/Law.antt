-- The promise over a whole shift of calls. Assumes nothing.
use Rattle.std.proofs.Common.{◌≡◌, ℕ, ◌+◌, ◌-◌, ◌<◌, ◌≤◌, Bool, true, false, cond, ◌⊎◌, List, ◌∷◌, ◌++◌, Some, None, Option, sym, refl, ap, ◌∙◌, subst, inl, inr, arith}
use Rattle.std.proofs.lemmas.Bool.{cases_lt, true≢false}
use Rattle.supply.specs.Window.{Windows}
use Rattle.schedule.specs.Row.{TaskRow}
use Rattle.schedule.specs.declared.Call.{Call}
use Rattle.schedule.specs.declared.Call.TheVariants.{Admit, Level, Withdraw, Release, Tick}
use Rattle.schedule.specs.declared.Refusal.{Refusal}
use Rattle.schedule.specs.declared.Answer.{Answer}
use Rattle.schedule.specs.declared.Answer.TheVariants.{Level as LevelIs, Passed, Ticked, Refused}
use Rattle.schedule.specs.State.{State, fresh}
use Rattle.schedule.specs.Test.{LeastLevel, witness}
use Rattle.schedule.specs.Order.{released_at, due, runs, word, names}
use Rattle.schedule.specs.Calls.{admitted, released, refusal, changed, answer_by, state_by, reply, task_of, answer, after, RefusalLaw}
use Rattle.schedule.specs.Entries.{Entry, calls_of, named_by, clock_of, deadline_of, UnderWay}
use Rattle.schedule.specs.Shift.{shift, after_all, Served, Guarantee}
use Rattle.schedule.proofs.Sums.{sum_le}
use Rattle.schedule.proofs.Jobs.{few_run, names_runs, names_high, runs_lacks}
use Rattle.schedule.proofs.Rows.{put_same}
use Rattle.schedule.proofs.Invariant.{Kept, fresh_kept}
use Rattle.schedule.proofs.Steps.{keeps, admit_asked, level_asked, ReleaseAsked, release_asked}
use Rattle.schedule.proofs.History.{Split, split_at, kept_all, clock_all, knows_all, Counts, runs_all, UnderFrom, CarriedOn, under_all}

passed_none : (o : Option Refusal) (a : Answer) → Passed ≡ answer_by o a → o ≡ None
passed_none None a e = refl
passed_none (Some r) a e = absurd cc

-- only a tick answers with processors and a word
tick_reply : (s : State) (c : Call) (g w : ℕ) → Ticked g w ≡ reply s c → (g ≡ s.row 0) × (w ≡ word s.slot (s.row 0))
tick_reply s (Admit id run period deadline) g w e = absurd cc
tick_reply s (Level id) g w e = absurd cc
tick_reply s (Withdraw id) g w e = absurd cc
tick_reply s (Release id run) g w e = absurd cc
tick_reply s Tick g w e = (cc, cc)

tick_answer_lem : (s : State) (c : Call) (g w : ℕ) → Ticked g w ≡ answer s c → (g ≡ s.row 0) × (w ≡ word s.slot (s.row 0))
tick_answer_lem s c g w = go (refusal s c)
  where
    go : (o : Option Refusal) → Ticked g w ≡ answer_by o (reply s c) → (g ≡ s.row 0) × (w ≡ word s.slot (s.row 0))
    go None e = tick_reply s c g w e
    go (Some r) e = absurd cc

level_reply : (row : ℕ → ℕ) (s : State) (c : Call) (j : ℕ) → refusal s c ≡ None → Kept row (changed s c) → LevelIs j ≡ reply s c → LeastLevel (changed s c).table (changed s c).slot (task_of c) j
level_reply row s (Admit id run period deadline) j none kept e =
    let is : j ≡ witness s.table (changed s (Admit id run period deadline)).slot id = cc in
    rw is (kept.levels id (admit_asked s id run period deadline none).below (ap (λ r. r.held) (put_same s.slot id (admitted run period deadline) id refl)))
level_reply row s (Level id) j none kept e =
    let is : j ≡ witness s.table s.slot id = cc in
    rw is (kept.levels id (level_asked s id none).0 (level_asked s id none).1)
level_reply row s (Withdraw id) j none kept e = absurd cc
level_reply row s (Release id run) j none kept e = absurd cc
level_reply row s Tick j none kept e = absurd cc

level_answer_lem : (row : ℕ → ℕ) (s : State) (c : Call) (j : ℕ) → Kept row (after s c) → LevelIs j ≡ answer s c → Served s c j
level_answer_lem row s c j = go (refusal s c) refl
  where
    go : (o : Option Refusal) → refusal s c ≡ o → Kept row (state_by o s (changed s c)) → LevelIs j ≡ answer_by o (reply s c) → LeastLevel (state_by o s (changed s c)).table (state_by o s (changed s c)).slot (task_of c) j
    go None none kept e = level_reply row s c j none kept e
    go (Some r) some kept e = absurd cc

-- from its release on, a job runs for its run time by its deadline
release_counts : (row : ℕ → ℕ) (s : State) (id run : ℕ) (cs : List Call) → Kept row s → refusal s (Release id run) ≡ None → Counts id (s.slot id).deadline (shift (after s (Release id run)) cs) run
release_counts row s id run cs kept none =
    let same : after s (Release id run) ≡ t = ap (λ o. state_by o s t) none in
    let all = runs_all row id t cs asked.below (subst (Kept row) same (keeps row s (Release id run) kept)) (ap (λ r. r.held) here ∙ asked.held) (ap (λ r. r.latest) here ∙ ap (λ r. Some (released_at r)) (sym here)) in
    let whole : due (t.slot id) - t.clock ≡ (s.slot id).deadline = omega (arith, ap due here) in
    subst (λ x. Counts id (s.slot id).deadline (shift x cs) run) (sym same)
    (subst (λ l. Counts id (s.slot id).deadline (shift t cs) l) (ap (λ r. r.lacking) here)
    (subst (λ n. Counts id n (shift t cs) (t.slot id).lacking) whole all))
  where
    t : State
    t = changed s (Release id run)

    asked : ReleaseAsked s id run
    asked = release_asked s id run none

    here : t.slot id ≡ released s.clock run (s.slot id)
    here = put_same s.slot id (released s.clock run (s.slot id)) id refl

module _ (row : ℕ → ℕ) (table : ℕ → ℕ → ℕ) (windows : Windows row table) (calls : List Call) where
  abbrev made : State
  made = fresh row table

  -- the state behind some entries
  abbrev at : List Entry → State
  at before = after_all made (calls_of before)

  kept_at : (before : List Entry) → Kept row (at before)
  kept_at before = kept_all row made (calls_of before) (fresh_kept row table windows)

  job_law : (before behind : List Entry) (id run : ℕ) → shift made calls ≡ before ++ ((Release id run, Passed) ∷ behind) → Counts id (deadline_of id before) behind run
  job_law before behind id run e =
      subst (λ n. Counts id n behind run) deadline
      (subst (λ es. Counts id ((at before).slot id).deadline es run) (sym sp.rest) (release_counts row (at before) id run sp.calls (kept_at before) none))
    where
      sp : Split made before (Release id run, Passed) behind
      sp = split_at made calls before (Release id run, Passed) behind e

      none : refusal (at before) (Release id run) ≡ None
      none = passed_none (refusal (at before) (Release id run)) (reply (at before) (Release id run)) sp.answered

      asked : ReleaseAsked (at before) id run
      asked = release_asked (at before) id run none

      deadline : ((at before).slot id).deadline ≡ deadline_of id before
      deadline =
          knows_all row id 0 made (calls_of before) asked.below (fresh_kept row table windows) (λ h. absurd (true≢false (sym h))) asked.held
          ∙ ap (deadline_of id) (sym sp.past)

  named_few : (slot : ℕ → TaskRow) (g : ℕ) → named_by (word slot g) ≤ g
  named_few slot g = omega (arith, few_run slot g, sum_le 32 (names (word slot g)) (λ i. cond (runs slot g i) 1 0) (λ i h. omega (arith, names_runs slot g i h)))

  named_runs : (slot : ℕ → TaskRow) (g id : ℕ) → 0 < names (word slot g) id → (id < 32) × (runs slot g id ≡ true)
  named_runs slot g id pos = go (cases_lt id 32)
    where
      by : (b : Bool) → names (word slot g) id ≡ cond b 1 0 → b ≡ true
      by true e = refl
      by false e = absurd (omega arith)

      go : (id < 32) ⊎ (32 ≤ id) → (id < 32) × (runs slot g id ≡ true)
      go (inl h) = (h, by (runs slot g id) (names_runs slot g id h))
      go (inr h) = absurd (omega (arith, names_high slot g id h))

  under_way : (before : List Entry) (id : ℕ) → before ≡ shift made (calls_of before) → id < 32 → 0 < ((at before).slot id).lacking → UnderWay id before
  under_way before id past below lacks = go (under_all row id 0 made (calls_of before) below (fresh_kept row table windows) (λ h. absurd (true≢false (sym h))) lacks)
    where
      go : CarriedOn id made (shift made (calls_of before)) ⊎ UnderFrom id 0 (shift made (calls_of before)) → UnderWay id before
      go (inl h) = absurd (omega (arith, h.0))
      go (inr u) = record { before = u.before; run = u.run; behind = u.behind; split = past ∙ u.split; goes_on = u.goes_on }

  tick_law : (before behind : List Entry) (c : Call) (g w : ℕ) → shift made calls ≡ before ++ ((c, Ticked g w) ∷ behind) → (g ≡ row (clock_of before)) × (named_by w ≤ g) × ((id : ℕ) → 0 < names w id → UnderWay id before)
  tick_law before behind c g w e =
      let given : (at before).clock + 0 ≡ clock_of before = omega (arith, clock_all made (calls_of before), ap clock_of sp.past) in (
        is.0 ∙ (kept_at before).rows 0 ∙ ap row given,
        rw (is.1, is.0) (named_few (at before).slot ((at before).row 0)),
        λ id pos.
            let r = named_runs (at before).slot ((at before).row 0) id (rw is.1 at pos) in
            under_way before id sp.past r.0 (runs_lacks (at before).slot ((at before).row 0) id r.1),
      )
    where
      sp : Split made before (c, Ticked g w) behind
      sp = split_at made calls before (c, Ticked g w) behind e

      is : (g ≡ (at before).row 0) × (w ≡ word (at before).slot ((at before).row 0))
      is = tick_answer_lem (at before) c g w sp.answered

pub shift_law : Guarantee
shift_law row table bounded windows calls =
    record {
      jobs = job_law row table windows calls;
      ticked = tick_law row table windows calls;
      answers = λ before behind c a e. (split_at (fresh row table) calls before (c, a) behind e).answered;
      levels = λ before behind c j e. level_answer_lem row _ c j (keeps row _ c (kept_at row table windows calls before)) (split_at (fresh row table) calls before (c, LevelIs j) behind e).answered;
    }

reply_accepted : (s : State) (c : Call) (r : Refusal) → reply s c ≡ Refused r → ⊥
reply_accepted s (Admit id run period deadline) r e = cc
reply_accepted s (Level id) r e = cc
reply_accepted s (Withdraw id) r e = cc
reply_accepted s (Release id run) r e = cc
reply_accepted s Tick r e = cc

pub refused_stays : RefusalLaw
refused_stays s c r = go (refusal s c)
  where
    go : (o : Option Refusal) → answer_by o (reply s c) ≡ Refused r → state_by o s (changed s c) ≡ s
    go None e = absurd (reply_accepted s c r e)
    go (Some q) e = refl
