-- What each call answers, question by question. Assumes nothing.
use Rattle.std.proofs.Common.{◌≡◌, ℕ, ◌<◌, ◌≤◌, Bool, true, false, ◌&&◌, leb, ltb, Some, None, Option, sym, refl, ap, arith}
use Rattle.std.proofs.lemmas.Bool.{lt-ltb, le-ltb, eq-eqb, ne_eqb}
use Rattle.task.specs.Task.{timely}
use Rattle.schedule.specs.declared.Call.{Call}
use Rattle.schedule.specs.declared.Call.TheVariants.{Admit, Level, Withdraw, Release, Tick}
use Rattle.schedule.specs.declared.Refusal.{Refusal}
use Rattle.schedule.specs.declared.Refusal.TheVariants.{NumberTooLarge, BadCard, NumberTaken, NoLevel, NotHeld, JobUnfinished, BadRunTime, TooSoon, ClockAtEnd}
use Rattle.schedule.specs.declared.Answer.TheVariants.{Refused}
use Rattle.schedule.specs.State.{State, put}
use Rattle.schedule.specs.Test.{first_unserved}
use Rattle.dispatch.specs.Dispatcher.{unheld}
use Rattle.schedule.specs.Calls.{ask, admitted, quiet, ready, refusal, reply, changed, answer_by, state_by, answer, after}

-- the call is refused, and for this reason; it passes
abbrev pub Refuses : State → Call → Refusal → Type 0
Refuses s c r = (Refused r ≡ answer s c) × (s ≡ after s c)

abbrev pub Passes : State → Call → Type 0
Passes s c = (reply s c ≡ answer s c) × (changed s c ≡ after s c)

refuses : (s : State) (c : Call) (r : Refusal) → refusal s c ≡ Some r → Refuses s c r
refuses s c r e = (sym (ap (λ o. answer_by o (reply s c)) e), sym (ap (λ o. state_by o s (changed s c)) e))

passes : (s : State) (c : Call) → refusal s c ≡ None → Passes s c
passes s c e = (sym (ap (λ o. answer_by o (reply s c)) e), sym (ap (λ o. state_by o s (changed s c)) e))

-- what the first two questions of a call refuse, it is refused for, whatever it asks behind them
first_two : (a b : Bool) (p q : Refusal) (rest : Option Refusal) (r : Refusal) → Some r ≡ ask a p (ask b q None) → ask a p (ask b q rest) ≡ Some r
first_two false b p q rest r e = sym e
first_two true false p q rest r e = sym e
first_two true true p q rest r e = absurd cc

both_passed : (a b : Bool) (p q : Refusal) → None ≡ ask a p (ask b q None) → (a ≡ true) × (b ≡ true)
both_passed false b p q e = absurd cc
both_passed true false p q e = absurd cc
both_passed true true p q e = (refl, refl)

module _ (s : State) (id : ℕ) where
  pub level_unheld : (r : Refusal) → Some r ≡ unheld s.slot id → Refuses s (Level id) r
  unfolding refusal
  level_unheld r e = refuses s (Level id) r (sym e)

  pub withdraw_unheld : (r : Refusal) → Some r ≡ unheld s.slot id → Refuses s (Withdraw id) r
  unfolding refusal
  withdraw_unheld r e = refuses s (Withdraw id) r (first_two (ltb id 32) (s.slot id).held NumberTooLarge NotHeld _ r e)

  pub release_unheld : (run : ℕ) (r : Refusal) → Some r ≡ unheld s.slot id → Refuses s (Release id run) r
  unfolding refusal
  release_unheld run r e = refuses s (Release id run) r (first_two (ltb id 32) (s.slot id).held NumberTooLarge NotHeld _ r e)

  pub is_held : None ≡ unheld s.slot id → (s.slot id).held ≡ true
  is_held e = (both_passed (ltb id 32) (s.slot id).held NumberTooLarge NotHeld e).1

  module _ (known : None ≡ unheld s.slot id) where
    below : ltb id 32 ≡ true
    below = (both_passed (ltb id 32) (s.slot id).held NumberTooLarge NotHeld known).0

    held : (s.slot id).held ≡ true
    held = is_held known

    pub level_passes : Passes s (Level id)
    unfolding refusal
    level_passes = passes s (Level id) (sym known)

    pub withdraw_busy : quiet s.slot ≡ false → Refuses s (Withdraw id) JobUnfinished
    unfolding refusal
    withdraw_busy busy = refuses s (Withdraw id) JobUnfinished (rw (below, held, busy) refl)

    pub withdraw_passes : quiet s.slot ≡ true → Passes s (Withdraw id)
    unfolding refusal
    withdraw_passes done = passes s (Withdraw id) (rw (below, held, done) refl)

    module _ (run : ℕ) where
      pub release_bad : (leb 1 run && leb run (s.slot id).run) ≡ false → Refuses s (Release id run) BadRunTime
      unfolding refusal
      release_bad bad = refuses s (Release id run) BadRunTime (rw (below, held, bad) refl)

      pub release_soon : (leb 1 run && leb run (s.slot id).run) ≡ true → ready s.clock (s.slot id).period (s.slot id).latest ≡ false → Refuses s (Release id run) TooSoon
      unfolding refusal
      release_soon good soon = refuses s (Release id run) TooSoon (rw (below, held, good, soon) refl)

      pub release_passes : (leb 1 run && leb run (s.slot id).run) ≡ true → ready s.clock (s.slot id).period (s.slot id).latest ≡ true → Passes s (Release id run)
      unfolding refusal
      release_passes good now' = passes s (Release id run) (rw (below, held, good, now') refl)

module _ (s : State) (id run period deadline : ℕ) where
  pub admit_large : ltb id 32 ≡ false → Refuses s (Admit id run period deadline) NumberTooLarge
  unfolding refusal
  admit_large big = refuses s (Admit id run period deadline) NumberTooLarge (rw big refl)

  module _ (below : ltb id 32 ≡ true) where
    pub admit_bad : timely run period deadline ≡ false → Refuses s (Admit id run period deadline) BadCard
    unfolding refusal
    admit_bad bad = refuses s (Admit id run period deadline) BadCard (rw (below, bad) refl)

    module _ (good : timely run period deadline ≡ true) where
      pub admit_taken : (s.slot id).held ≡ true → Refuses s (Admit id run period deadline) NumberTaken
      unfolding refusal
      admit_taken held = refuses s (Admit id run period deadline) NumberTaken (rw (below, good, held) refl)

      module _ (free : (s.slot id).held ≡ false) where
        pub admit_fails : (k : ℕ) → k < 32 → first_unserved s.table (put s.slot id (admitted run period deadline)) ≡ k → Refuses s (Admit id run period deadline) (NoLevel k)
        unfolding refusal
        admit_fails k small first = refuses s (Admit id run period deadline) (NoLevel k) (rw (below, good, free, first, ne_eqb k 32 (λ e. omega arith)) refl)

        pub admit_passes : first_unserved s.table (put s.slot id (admitted run period deadline)) ≡ 32 → Passes s (Admit id run period deadline)
        unfolding refusal
        admit_passes all = passes s (Admit id run period deadline) (rw (below, good, free, eq-eqb _ 32 all) refl)

module _ (s : State) where
  pub tick_ends : 1000000000 ≤ s.clock → Refuses s Tick ClockAtEnd
  unfolding refusal
  tick_ends end = refuses s Tick ClockAtEnd (rw (le-ltb s.clock 1000000000 end) refl)

  pub tick_passes : s.clock < 1000000000 → Passes s Tick
  unfolding refusal
  tick_passes before = passes s Tick (rw (lt-ltb s.clock 1000000000 before) refl)

-- states with the same parts
pub same_state : (s t : State) → ((x : ℕ) → s.row x ≡ t.row x) → ((j n : ℕ) → s.table j n ≡ t.table j n) → s.clock ≡ t.clock → s.slot ≡ t.slot → s ≡ t
same_state s t row table clock slot = λ i. record { row = λ x. row x i; table = λ j n. table j n i; clock = clock i; slot = slot i }
