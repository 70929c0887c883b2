-- A call that is not refused: what its questions tell, and what it does to one task. Assumes nothing.
use Rattle.std.proofs.Common.{◌≡◌, ℕ, ◌+◌, ◌<◌, ◌≤◌, Bool, true, false, cond, leb, ◌⊎◌, Some, None, Option, sym, refl, ap, ◌∙◌, inl, inr, arith}
use Rattle.std.proofs.lemmas.Bool.{cases_lt, cases_eq, eq-eqb, ne_eqb, ltb-true, leb-true, and_parts, not-true}
use Rattle.task.specs.Task.{timely}
use Rattle.schedule.specs.declared.Call.{Call}
use Rattle.schedule.specs.declared.Call.TheVariants.{Admit, Level, Withdraw, Release, Tick}
use Rattle.schedule.specs.declared.Refusal.{Refusal}
use Rattle.schedule.specs.declared.Answer.TheVariants.{Passed}
use Rattle.schedule.specs.State.{State, blank, put}
use Rattle.schedule.specs.Test.{passes}
use Rattle.schedule.specs.Order.{runs, spent}
use Rattle.schedule.specs.Calls.{ask, admitted, released, quiet, ready, refusal, reply, changed, answer_by, state_by, answer, after}
use Rattle.schedule.specs.Entries.{Entry, ticks, naming, accepted, leaves, deadline_by}
use Rattle.schedule.proofs.Jobs.{names_runs, runs_lacks}
use Rattle.schedule.proofs.Rest.{earliest}
use Rattle.schedule.proofs.Rows.{put_same, put_other}
use Rattle.schedule.proofs.Invariant.{Kept, tick_kept, release_kept, admit_kept, withdraw_kept, quiet_lacks}

ask_none : (b : Bool) (r : Refusal) (o : Option Refusal) → ask b r o ≡ None → (b ≡ true) × (o ≡ None)
ask_none true r o e = (refl, e)
ask_none false r o e = absurd cc

ready_earliest : (y period : ℕ) (o : Option ℕ) → ready y period o ≡ true → earliest y period o ≡ y
ready_earliest y period None h = refl
ready_earliest y period (Some a) h = omega (arith, leb-true (a + period) y h)

pub record AdmitAsked (s : State) (id run period deadline : ℕ) : Type 0 where
  pub below : id < 32
  pub good : timely run period deadline ≡ true
  pub free : (s.slot id).held ≡ false
  pub pass : passes s.table (put s.slot id (admitted run period deadline)) ≡ true

pub admit_asked : (s : State) (id run period deadline : ℕ) → refusal s (Admit id run period deadline) ≡ None → AdmitAsked s id run period deadline
unfolding refusal
admit_asked s id run period deadline e =
    let a = ask_none _ _ _ e in
    let b = ask_none _ _ _ a.1 in
    let c = ask_none _ _ _ b.1 in
    record { below = ltb-true id 32 a.0; good = b.0; free = not-true _ c.0; pass = (ask_none _ _ _ c.1).0 }

pub level_asked : (s : State) (id : ℕ) → refusal s (Level id) ≡ None → (id < 32) × ((s.slot id).held ≡ true)
unfolding refusal
level_asked s id e =
    let a = ask_none _ _ _ e in
    (ltb-true id 32 a.0, (ask_none _ _ _ a.1).0)

pub withdraw_asked : (s : State) (id : ℕ) → refusal s (Withdraw id) ≡ None → (id < 32) × ((s.slot id).held ≡ true) × (quiet s.slot ≡ true)
unfolding refusal
withdraw_asked s id e =
    let a = ask_none _ _ _ e in
    let b = ask_none _ _ _ a.1 in
    (ltb-true id 32 a.0, b.0, (ask_none _ _ _ b.1).0)

pub record ReleaseAsked (s : State) (id run : ℕ) : Type 0 where
  pub below : id < 32
  pub held : (s.slot id).held ≡ true
  pub one : 1 ≤ run
  pub most : run ≤ (s.slot id).run
  pub waited : earliest s.clock (s.slot id).period (s.slot id).latest ≡ s.clock

pub release_asked : (s : State) (id run : ℕ) → refusal s (Release id run) ≡ None → ReleaseAsked s id run
unfolding refusal
release_asked s id run e =
    let a = ask_none _ _ _ e in
    let b = ask_none _ _ _ a.1 in
    let c = ask_none _ _ _ b.1 in
    let d = ask_none _ _ _ c.1 in
    let p = and_parts (leb 1 run) _ c.0 in
    record { below = ltb-true id 32 a.0; held = b.0; one = leb-true 1 run p.0; most = leb-true _ _ p.1; waited = ready_earliest s.clock (s.slot id).period (s.slot id).latest d.0 }

changed_kept : (row : ℕ → ℕ) (s : State) (c : Call) → Kept row s → refusal s c ≡ None → Kept row (changed s c)
changed_kept row s (Admit id run period deadline) kept e =
    let a = admit_asked s id run period deadline e in
    admit_kept row s kept id run period deadline a.below a.good a.free a.pass
changed_kept row s (Level id) kept e = kept
changed_kept row s (Withdraw id) kept e = withdraw_kept row s kept id (withdraw_asked s id e).2
changed_kept row s (Release id run) kept e =
    let a = release_asked s id run e in
    release_kept row s kept id run a.below a.held a.one a.most a.waited
changed_kept row s Tick kept e = tick_kept row s kept

-- every call keeps the invariant
pub keeps : (row : ℕ → ℕ) (s : State) (c : Call) → Kept row s → Kept row (after s c)
keeps row s c kept = go (refusal s c) refl
  where
    go : (o : Option Refusal) → refusal s c ≡ o → Kept row (state_by o s (changed s c))
    go None e = changed_kept row s c kept e
    go (Some r) e = kept

-- the deadline of task id behind an entry, with d before it
abbrev pub deadline_behind : ℕ → Entry → ℕ → ℕ
deadline_behind id e d = cond (accepted e.1) (deadline_by id e.0 d) d

-- nothing of the task changes, and no tick passes
pub record Stays (id : ℕ) (s : State) (e : Entry) (t : State) : Type 0 where
  pub row : t.slot id ≡ s.slot id
  pub clock : t.clock ≡ s.clock
  pub ticking : ticks e.1 ≡ 0
  pub named : naming id e.1 ≡ 0
  pub leaving : leaves id e ≡ false
  pub deadline : (d : ℕ) → deadline_behind id e d ≡ d

pub record Comes (id : ℕ) (s : State) (e : Entry) (t : State) : Type 0 where
  pub free : (s.slot id).held ≡ false
  pub lacking : (t.slot id).lacking ≡ 0
  pub deadline : (d : ℕ) → deadline_behind id e d ≡ (t.slot id).deadline

pub record Goes (id : ℕ) (s : State) (e : Entry) (t : State) : Type 0 where
  pub row : t.slot id ≡ blank
  pub leaving : leaves id e ≡ true
  pub done : (s.slot id).lacking ≡ 0

pub record Starts (id : ℕ) (s : State) (e : Entry) (t : State) : Type 0 where
  pub run : ℕ
  pub entry : e ≡ (Release id run, Passed)
  pub row : t.slot id ≡ released s.clock run (s.slot id)
  pub clock : t.clock ≡ s.clock
  pub asked : ReleaseAsked s id run
  pub deadline : (d : ℕ) → deadline_behind id e d ≡ d

pub record Ticks (id : ℕ) (s : State) (e : Entry) (t : State) : Type 0 where
  pub ran : Bool
  pub row : t.slot id ≡ spent ran (s.slot id)
  pub clock : t.clock ≡ s.clock + 1
  pub ticking : ticks e.1 ≡ 1
  pub named : naming id e.1 ≡ cond ran 1 0
  pub lacked : ran ≡ true → 0 < (s.slot id).lacking
  pub leaving : leaves id e ≡ false
  pub deadline : (d : ℕ) → deadline_behind id e d ≡ d

-- what an entry does to task id, between the states s and t
pub data Turn (id : ℕ) (s : State) (e : Entry) (t : State) : Type 0 where
  stays : Stays id s e t → Turn id s e t
  comes : Comes id s e t → Turn id s e t
  goes : Goes id s e t → Turn id s e t
  starts : Starts id s e t → Turn id s e t
  tick : Ticks id s e t → Turn id s e t

turn_changed : (row : ℕ → ℕ) (s : State) → Kept row s → (id : ℕ) → id < 32 → (c : Call) → refusal s c ≡ None → Turn id s (c, reply s c) (changed s c)
turn_changed row s kept id below (Admit i run period deadline) e = go (cases_eq id i)
  where
    asked : AdmitAsked s i run period deadline
    asked = admit_asked s i run period deadline e

    go : (id ≡ i) ⊎ (id ≡ i → ⊥) → Turn id s (Admit i run period deadline, reply s (Admit i run period deadline)) (changed s (Admit i run period deadline))
    go (inl q) =
        comes (record {
          free = ap (λ x. (s.slot x).held) q ∙ asked.free;
          lacking = ap (λ r. r.lacking) (put_same s.slot i (admitted run period deadline) id q);
          deadline = λ d. ap (λ b. cond b deadline d) (eq-eqb i id (sym q)) ∙ sym (ap (λ r. r.deadline) (put_same s.slot i (admitted run period deadline) id q));
        })
    go (inr ne) =
        stays (record { row = put_other s.slot i (admitted run period deadline) id ne; clock = refl; ticking = refl; named = refl; leaving = refl; deadline = λ d. ap (λ b. cond b deadline d) (ne_eqb i id (λ q. ne (sym q))) })
turn_changed row s kept id below (Level i) e = stays (record { row = refl; clock = refl; ticking = refl; named = refl; leaving = refl; deadline = λ d. refl })
turn_changed row s kept id below (Withdraw i) e = go (cases_eq id i)
  where
    lacks : (0 < (s.slot id).lacking) ⊎ ((s.slot id).lacking ≤ 0) → (s.slot id).lacking ≡ 0
    lacks (inl l) = absurd (quiet_lacks row s kept (withdraw_asked s i e).2 id below l)
    lacks (inr l) = omega arith

    go : (id ≡ i) ⊎ (id ≡ i → ⊥) → Turn id s (Withdraw i, Passed) (changed s (Withdraw i))
    go (inl q) = goes (record { row = put_same s.slot i blank id q; leaving = eq-eqb i id (sym q); done = lacks (cases_lt 0 (s.slot id).lacking) })
    go (inr ne) = stays (record { row = put_other s.slot i blank id ne; clock = refl; ticking = refl; named = refl; leaving = ne_eqb i id (λ q. ne (sym q)); deadline = λ d. refl })
turn_changed row s kept id below (Release i run) e = go (cases_eq id i)
  where
    go : (id ≡ i) ⊎ (id ≡ i → ⊥) → Turn id s (Release i run, Passed) (changed s (Release i run))
    go (inl q) =
        starts (record {
          run = run;
          entry = ap (λ x. (Release x run, Passed)) (sym q);
          row = put_same s.slot i (released s.clock run (s.slot i)) id q ∙ ap (λ x. released s.clock run (s.slot x)) (sym q);
          clock = refl;
          asked = rw q (release_asked s i run e);
          deadline = λ d. refl;
        })
    go (inr ne) = stays (record { row = put_other s.slot i (released s.clock run (s.slot i)) id ne; clock = refl; ticking = refl; named = refl; leaving = refl; deadline = λ d. refl })
turn_changed row s kept id below Tick e =
    tick (record {
      ran = runs s.slot (s.row 0) id;
      row = refl;
      clock = refl;
      ticking = refl;
      named = names_runs s.slot (s.row 0) id below;
      lacked = runs_lacks s.slot (s.row 0) id;
      leaving = refl;
      deadline = λ d. refl;
    })

-- what a call and its answer do to a task
pub turn : (row : ℕ → ℕ) (s : State) → Kept row s → (id : ℕ) → id < 32 → (c : Call) → Turn id s (c, answer s c) (after s c)
turn row s kept id below c = go (refusal s c) refl
  where
    go : (o : Option Refusal) → refusal s c ≡ o → Turn id s (c, answer_by o (reply s c)) (state_by o s (changed s c))
    go None e = turn_changed row s kept id below c e
    go (Some r) e = stays (record { row = refl; clock = refl; ticking = refl; named = refl; leaving = refl; deadline = λ d. refl })
