-- The entries of a shift against the states that they pass through. Assumes nothing.
use Rattle.std.proofs.Common.{◌≡◌, ℕ, ◌+◌, ◌-◌, ◌<◌, ◌≤◌, Bool, true, false, cond, eqb, ◌⊎◌, List, [], ◌∷◌, ◌++◌, Some, None, Option, sym, refl, ap, ◌∙◌, inl, inr, arith}
use Rattle.std.proofs.lemmas.Bool.{cases_lt, ne_eqb, or_right, true≢false}
use Rattle.schedule.specs.Row.{TaskRow}
use Rattle.schedule.specs.declared.Call.{Call}
use Rattle.schedule.specs.declared.Call.TheVariants.{Admit, Level, Withdraw, Release, Tick}
use Rattle.schedule.specs.declared.Refusal.{Refusal}
use Rattle.schedule.specs.declared.Answer.TheVariants.{Passed}
use Rattle.schedule.specs.State.{State}
use Rattle.schedule.specs.Order.{released_at, due}
use Rattle.schedule.specs.Calls.{refusal, changed, answer_by, state_by, reply, answer, after}
use Rattle.schedule.specs.Entries.{Entry, calls_of, ticks, naming, clock_of, namings, leaves, deadline_from, stretch, to_come}
use Rattle.schedule.specs.Shift.{shift, after_all}
use Rattle.schedule.proofs.Rest.{RowSound, earliest}
use Rattle.schedule.proofs.Invariant.{Kept}
use Rattle.schedule.proofs.Steps.{keeps, turn, Turn, stays, comes, goes, starts, tick, deadline_behind}

-- what an entry of a shift is, where it stands behind some and before others
pub record Split (s : State) (before : List Entry) (e : Entry) (behind : List Entry) : Type 0 where
  pub calls : List Call
  pub answered : e.1 ≡ answer (after_all s (calls_of before)) e.0
  pub rest : behind ≡ shift (after (after_all s (calls_of before)) e.0) calls
  pub past : before ≡ shift s (calls_of before)

cons_head : (x y : Entry) (xs ys : List Entry) → x ∷ xs ≡ y ∷ ys → x ≡ y
cons_head x y xs ys e = cc

cons_tail : (x y : Entry) (xs ys : List Entry) → x ∷ xs ≡ y ∷ ys → xs ≡ ys
cons_tail x y xs ys e = cc

nil_append : (x : Entry) (before behind : List Entry) → [] ≡ before ++ (x ∷ behind) → ⊥
nil_append x [] behind e = cc
nil_append x (y ∷ before) behind e = cc

pub split_at : (s : State) (calls : List Call) (before : List Entry) (e : Entry) (behind : List Entry) → shift s calls ≡ before ++ (e ∷ behind) → Split s before e behind
unfolding shift after_all calls_of
split_at s [] before e behind eq = absurd (nil_append e before behind eq)
split_at s (c ∷ cs) [] e behind eq =
    let h = cons_head (c, answer s c) e (shift (after s c) cs) behind eq in
    record {
      calls = cs;
      answered = sym (ap (λ x. x.1) h) ∙ ap (λ x. answer s x.0) h;
      rest = sym (cons_tail (c, answer s c) e (shift (after s c) cs) behind eq) ∙ ap (λ x. shift (after s x.0) cs) h;
      past = refl;
    }
split_at s (c ∷ cs) (b ∷ before) e behind eq =
    let h = cons_head (c, answer s c) b (shift (after s c) cs) (before ++ (e ∷ behind)) eq in
    let t = cons_tail (c, answer s c) b (shift (after s c) cs) (before ++ (e ∷ behind)) eq in
    let more = split_at (after s c) cs before e behind t in
    let first = ap (λ x. x.0) h in
    record {
      calls = more.calls;
      answered = more.answered ∙ ap (λ x. answer (after_all (after s x) (calls_of before)) e.0) first;
      rest = more.rest ∙ ap (λ x. shift (after (after_all (after s x) (calls_of before)) e.0) more.calls) first;
      past = ap (λ x. x ∷ before) (sym h) ∙ ap (λ xs. (c, answer s c) ∷ xs) more.past ∙ ap {B = List Entry} (λ x. (x, answer s x) ∷ shift (after s x) (calls_of before)) first;
    }

pub kept_all : (row : ℕ → ℕ) (s : State) (cs : List Call) → Kept row s → Kept row (after_all s cs)
unfolding after_all
kept_all row s [] kept = kept
kept_all row s (c ∷ cs) kept = kept_all row (after s c) cs (keeps row s c kept)

clock_changed : (s : State) (c : Call) → (changed s c).clock ≡ ticks (reply s c) + s.clock
clock_changed s (Admit id run period deadline) = omega arith
clock_changed s (Level id) = omega arith
clock_changed s (Withdraw id) = omega arith
clock_changed s (Release id run) = omega arith
clock_changed s Tick = omega arith

clock_step : (s : State) (c : Call) → (after s c).clock ≡ ticks (answer s c) + s.clock
clock_step s c = go (refusal s c)
  where
    go : (o : Option Refusal) → (state_by o s (changed s c)).clock ≡ ticks (answer_by o (reply s c)) + s.clock
    go None = clock_changed s c
    go (Some r) = omega arith

-- the clock is the ticks that passed
pub clock_all : (s : State) (cs : List Call) → (after_all s cs).clock ≡ clock_of (shift s cs) + s.clock
unfolding shift after_all clock_of
clock_all s [] = omega arith
clock_all s (c ∷ cs) = omega (arith, clock_all (after s c) cs, clock_step s c)

-- where task id is held, its deadline is d
abbrev Knows : ℕ → ℕ → State → Type 0
Knows id d s = (s.slot id).held ≡ true → (s.slot id).deadline ≡ d

knows_step : (id d : ℕ) (s : State) (e : Entry) (t : State) → Turn id s e t → Knows id d s → Knows id (deadline_behind id e d) t
knows_step id d s e t (stays x) k held = ap (λ r. r.deadline) x.row ∙ k (sym (ap (λ r. r.held) x.row) ∙ held) ∙ sym (x.deadline d)
knows_step id d s e t (comes x) k held = sym (x.deadline d)
knows_step id d s e t (goes x) k held = absurd (true≢false (sym held ∙ ap (λ r. r.held) x.row))
knows_step id d s e t (starts x) k held = ap (λ r. r.deadline) x.row ∙ k (sym (ap (λ r. r.held) x.row) ∙ held) ∙ sym (x.deadline d)
knows_step id d s e t (tick x) k held = ap (λ r. r.deadline) x.row ∙ k (sym (ap (λ r. r.held) x.row) ∙ held) ∙ sym (x.deadline d)

-- the deadline of a held task is that of its last admission
pub knows_all : (row : ℕ → ℕ) (id d : ℕ) (s : State) (cs : List Call) → id < 32 → Kept row s → Knows id d s → Knows id (deadline_from id d (shift s cs)) (after_all s cs)
unfolding shift after_all deadline_from
knows_all row id d s [] below kept k = k
knows_all row id d s (c ∷ cs) below kept k =
    knows_all row id (deadline_behind id (c, answer s c) d) (after s c) cs below (keeps row s c kept) (knows_step id d s (c, answer s c) (after s c) (turn row s kept id below c) k)

stretch_none : (id : ℕ) (es : List Entry) → stretch id 0 es ≡ []
unfolding stretch
stretch_none id [] = refl
stretch_none id (e ∷ es) = refl

stretch_more : (id n : ℕ) (e : Entry) (es : List Entry) → 0 < n → leaves id e ≡ false → namings id (stretch id n (e ∷ es)) ≡ naming id e.1 + namings id (stretch id (n - ticks e.1) es)
unfolding stretch namings
stretch_more id n e es pos stay = rw (ne_eqb n 0 (λ z. omega arith), stay) refl

come_more : (id n : ℕ) (e : Entry) (es : List Entry) → leaves id e ≡ false → to_come id n (e ∷ es) ≡ to_come id (n - ticks e.1) es
unfolding to_come
come_more id n e es stay = rw stay refl

stretch_left : (id n : ℕ) (e : Entry) (es : List Entry) → leaves id e ≡ true → namings id (stretch id n (e ∷ es)) ≡ 0
unfolding stretch namings
stretch_left id n e es stay = rw (or_right (eqb n 0) (leaves id e) stay) refl

-- the ticks of a stretch that name id are at most l, and they are l where it has ended
abbrev pub Counts : ℕ → ℕ → List Entry → ℕ → Type 0
Counts id n es l = (namings id (stretch id n es) ≤ l) × (to_come id n es ≡ 0 → namings id (stretch id n es) ≡ l)

counts_none : (id n : ℕ) (es : List Entry) (l : ℕ) → n ≡ 0 → l ≡ 0 → Counts id n es l
unfolding namings
counts_none id n es l e z =
    let none : namings id (stretch id n es) ≡ 0 = ap (λ m. namings id (stretch id m es)) e ∙ ap (namings id) (stretch_none id es) in
    (omega arith, λ _. omega arith)

counts_more : (id n : ℕ) (e : Entry) (es : List Entry) (l m : ℕ) → 0 < n → leaves id e ≡ false → Counts id (n - ticks e.1) es m → naming id e.1 + m ≡ l → Counts id n (e ∷ es) l
counts_more id n e es l m pos stay c sum =
    (omega (arith, stretch_more id n e es pos stay, c.0), λ z. omega (arith, stretch_more id n e es pos stay, c.1 (sym (come_more id n e es stay) ∙ z)))

-- the promise for the job in hand, from a state on
abbrev Runs : ℕ → State → List Entry → Type 0
Runs id s es = (s.slot id).held ≡ true → (s.slot id).latest ≡ Some (released_at (s.slot id)) → Counts id (due (s.slot id) - s.clock) es (s.slot id).lacking

-- a job that is due lacks nothing
due_done : (y : ℕ) (r : TaskRow) → RowSound y r → due r - y ≡ 0 → r.lacking ≡ 0
due_done y r sound z = go (cases_lt 0 r.lacking)
  where
    go : (0 < r.lacking) ⊎ (r.lacking ≤ 0) → r.lacking ≡ 0
    go (inl l) = absurd (omega (arith, (sound.job l).2))
    go (inr l) = omega arith

runs_step : (id : ℕ) (s : State) (e : Entry) (t : State) (es : List Entry) → RowSound s.clock (s.slot id) → 0 < due (s.slot id) - s.clock → Turn id s e t → Runs id t es → Runs id s (e ∷ es)
runs_step id s e t es sound pos (stays x) ih held latest =
    let next = ih (ap (λ r. r.held) x.row ∙ held) (ap (λ r. r.latest) x.row ∙ latest ∙ ap (λ r. Some (released_at r)) (sym x.row)) in
    let same : due (t.slot id) - t.clock ≡ due (s.slot id) - s.clock - ticks e.1 = omega (arith, ap due x.row, x.clock, x.ticking) in
    counts_more id (due (s.slot id) - s.clock) e es _ (t.slot id).lacking pos x.leaving (rw same at next) (omega (arith, x.named, ap (λ r. r.lacking) x.row))
runs_step id s e t es sound pos (comes x) ih held latest = absurd (true≢false (sym held ∙ x.free))
runs_step id s e t es sound pos (goes x) ih held latest =
    (omega (arith, stretch_left id (due (s.slot id) - s.clock) e es x.leaving), λ _. stretch_left id (due (s.slot id) - s.clock) e es x.leaving ∙ sym x.done)
runs_step id s e t es sound pos (starts x) ih held latest =
    absurd (omega (arith, sound.card held, ap (earliest s.clock (s.slot id).period) (sym latest) ∙ x.asked.waited))
runs_step id s e t es sound pos (tick x) ih held latest =
    let next = ih (ap (λ r. r.held) x.row ∙ held) (ap (λ r. r.latest) x.row ∙ latest ∙ ap (λ r. Some (released_at r)) (sym x.row)) in
    let same : due (t.slot id) - t.clock ≡ due (s.slot id) - s.clock - ticks e.1 = omega (arith, ap due x.row, x.clock, x.ticking) in
    counts_more id (due (s.slot id) - s.clock) e es _ (t.slot id).lacking pos x.leaving (rw same at next) (ran_more x.ran x.named x.lacked (ap (λ r. r.lacking) x.row))
  where
    ran_more : (b : Bool) → naming id e.1 ≡ cond b 1 0 → (b ≡ true → 0 < (s.slot id).lacking) → (t.slot id).lacking ≡ (s.slot id).lacking - cond b 1 0 → naming id e.1 + (t.slot id).lacking ≡ (s.slot id).lacking
    ran_more true n l q = omega (arith, l refl)
    ran_more false n l q = omega arith

-- from a state on, the ticks that name id before the deadline of its job in hand are those that the job lacks
pub runs_all : (row : ℕ → ℕ) (id : ℕ) (s : State) (cs : List Call) → id < 32 → Kept row s → Runs id s (shift s cs)
unfolding shift stretch to_come namings
runs_all row id s [] below kept held latest = (omega arith, λ z. sym (due_done s.clock (s.slot id) (kept.each id below) z))
runs_all row id s (c ∷ cs) below kept held latest = go (cases_lt 0 (due (s.slot id) - s.clock)) (runs_all row id (after s c) cs below (keeps row s c kept))
  where
    go : (0 < due (s.slot id) - s.clock) ⊎ (due (s.slot id) - s.clock ≤ 0) → Runs id (after s c) (shift (after s c) cs) → Counts id (due (s.slot id) - s.clock) ((c, answer s c) ∷ shift (after s c) cs) (s.slot id).lacking
    go (inl pos) ih = runs_step id s (c, answer s c) (after s c) (shift (after s c) cs) (kept.each id below) pos (turn row s kept id below c) ih held latest
    go (inr z) ih =
        let none : due (s.slot id) - s.clock ≡ 0 = omega arith in
        counts_none id (due (s.slot id) - s.clock) ((c, answer s c) ∷ shift (after s c) cs) (s.slot id).lacking none (due_done s.clock (s.slot id) (kept.each id below) none)

-- a release of id among the entries whose stretch has not ended, where d is the deadline before them
pub record UnderFrom (id d : ℕ) (es : List Entry) : Type 0 where
  pub before : List Entry
  pub run : ℕ
  pub behind : List Entry
  pub split : es ≡ before ++ ((Release id run, Passed) ∷ behind)
  pub goes_on : 0 < to_come id (deadline_from id d before) behind

-- the job in hand at a state is still under way behind the entries
abbrev pub CarriedOn : ℕ → State → List Entry → Type 0
CarriedOn id s es = (0 < (s.slot id).lacking) × (0 < to_come id (due (s.slot id) - s.clock) es)

under_step : (id d : ℕ) (s : State) (e : Entry) (t : State) (es : List Entry) → Turn id s e t → Knows id d s → CarriedOn id t es → CarriedOn id s (e ∷ es) ⊎ UnderFrom id d (e ∷ es)
unfolding deadline_from
under_step id d s e t es (stays x) k h =
    let same : due (t.slot id) - t.clock ≡ due (s.slot id) - s.clock - ticks e.1 = omega (arith, ap due x.row, x.clock, x.ticking) in
    inl (omega (arith, h.0, ap (λ r. r.lacking) x.row), rw (come_more id (due (s.slot id) - s.clock) e es x.leaving) (rw same at h.1))
under_step id d s e t es (comes x) k h = absurd (omega (arith, h.0, x.lacking))
under_step id d s e t es (goes x) k h = absurd (omega (arith, h.0, ap (λ r. r.lacking) x.row))
under_step id d s e t es (starts x) k h =
    let whole : due (t.slot id) - t.clock ≡ d = omega (arith, ap due x.row, x.clock, k x.asked.held) in
    inr (record { before = []; run = x.run; behind = es; split = ap (λ y. y ∷ es) x.entry; goes_on = rw whole at h.1 })
under_step id d s e t es (tick x) k h =
    let same : due (t.slot id) - t.clock ≡ due (s.slot id) - s.clock - ticks e.1 = omega (arith, ap due x.row, x.clock, x.ticking) in
    inl (omega (arith, h.0, ap (λ r. r.lacking) x.row), rw (come_more id (due (s.slot id) - s.clock) e es x.leaving) (rw same at h.1))

-- a task that lacks ticks has a job under way
pub under_all : (row : ℕ → ℕ) (id d : ℕ) (s : State) (cs : List Call) → id < 32 → Kept row s → Knows id d s → 0 < ((after_all s cs).slot id).lacking → CarriedOn id s (shift s cs) ⊎ UnderFrom id d (shift s cs)
unfolding shift after_all to_come deadline_from
under_all row id d s [] below kept k lacks = inl (lacks, omega (arith, ((kept.each id below).job lacks).2))
under_all row id d s (c ∷ cs) below kept k lacks =
    go (under_all row id (deadline_behind id e d) (after s c) cs below (keeps row s c kept) (knows_step id d s e (after s c) (turn row s kept id below c) k) lacks)
  where
    e : Entry
    e = (c, answer s c)

    go : CarriedOn id (after s c) (shift (after s c) cs) ⊎ UnderFrom id (deadline_behind id e d) (shift (after s c) cs) → CarriedOn id s (e ∷ shift (after s c) cs) ⊎ UnderFrom id d (e ∷ shift (after s c) cs)
    go (inl h) = under_step id d s e (after s c) (shift (after s c) cs) (turn row s kept id below c) k h
    go (inr u) = inr (record { before = e ∷ u.before; run = u.run; behind = u.behind; split = ap (λ xs. e ∷ xs) u.split; goes_on = u.goes_on })
