-- Worked examples of the definitions. Assumes nothing.
use Rattle.std.specs.Prelude.{◌≡◌, ℕ, ◌*◌, min, List, [], ◌∷◌, refl}
use Rattle.schedule.specs.declared.Call.TheVariants.{Admit, Level, Withdraw, Release, Tick}
use Rattle.schedule.specs.declared.Refusal.TheVariants.{NumberTooLarge, BadCard, NumberTaken, NoLevel, NotHeld, JobUnfinished, BadRunTime, TooSoon, ClockAtEnd}
use Rattle.schedule.specs.declared.Answer.TheVariants.{Level as LevelIs, Passed, Ticked, Refused}
use Rattle.schedule.specs.Counting.{sum, least}
use Rattle.schedule.specs.State.{State, blank, fresh}
use Rattle.schedule.specs.Test.{charge, serves, witness, first_unserved}
use Rattle.schedule.specs.Order.{ahead, rank, word}
use Rattle.schedule.specs.Calls.{answer, refusal}
use Rattle.schedule.specs.Shift.{answers_of}
use Rattle.schedule.specs.Entries.{Entry, clock_of, namings, deadline_from, deadline_of, stretch, to_come, named_by}

-- a supply of w processors in every tick
abbrev pub steady : ℕ → State
steady w = fresh (λ _. w) (λ j n. min j w * n)

-- two tasks on one processor, both released in full at clock 0; task 0 may not be released again at clock 4, and may at 5
pub two_tasks_lem : answers_of (steady 1) (Admit 0 2 5 5 ∷ Admit 1 3 7 6 ∷ Release 0 2 ∷ Release 1 3 ∷ Tick ∷ Tick ∷ Tick ∷ Tick ∷ Release 0 2 ∷ Tick ∷ Release 0 1 ∷ Tick ∷ Tick ∷ [])
    ≡ LevelIs 1 ∷ LevelIs 1 ∷ Passed ∷ Passed ∷ Ticked 1 1 ∷ Ticked 1 1 ∷ Ticked 1 2 ∷ Ticked 1 2 ∷ Refused TooSoon ∷ Ticked 1 2 ∷ Passed ∷ Ticked 1 1 ∷ Ticked 1 0 ∷ []
unfolding answers_of refusal sum least charge serves witness first_unserved ahead rank word
two_tasks_lem = refl

-- five equal tasks on two processors: level 2 serves each; a sixth would leave task 0 without a level
pub five_tasks : answers_of (steady 2) (Admit 0 2 6 6 ∷ Admit 1 2 6 6 ∷ Admit 2 2 6 6 ∷ Admit 3 2 6 6 ∷ Admit 4 2 6 6 ∷ Admit 5 2 6 6 ∷ Level 0 ∷ Level 4 ∷ [])
    ≡ LevelIs 1 ∷ LevelIs 1 ∷ LevelIs 1 ∷ LevelIs 2 ∷ LevelIs 2 ∷ Refused (NoLevel 0) ∷ LevelIs 2 ∷ LevelIs 2 ∷ []
unfolding answers_of refusal sum least charge serves witness first_unserved ahead rank word
five_tasks = refl

-- the questions of each call
pub questions : answers_of (steady 1) (Level 32 ∷ Admit 32 0 0 0 ∷ Admit 3 0 5 5 ∷ Admit 3 1 4097 5 ∷ Admit 3 4 5 3 ∷ Level 3 ∷ Release 3 1 ∷ Admit 3 2 4 4 ∷ Admit 3 9 9 9 ∷ Admit 3 1 4 4 ∷ Release 3 0 ∷ Release 3 3 ∷ Release 3 2 ∷ Withdraw 3 ∷ Tick ∷ Withdraw 3 ∷ Tick ∷ Withdraw 3 ∷ Withdraw 3 ∷ [])
    ≡ Refused NumberTooLarge ∷ Refused NumberTooLarge ∷ Refused BadCard ∷ Refused BadCard ∷ Refused BadCard ∷ Refused NotHeld ∷ Refused NotHeld ∷ LevelIs 1 ∷ Refused NumberTaken ∷ Refused NumberTaken ∷ Refused BadRunTime ∷ Refused BadRunTime ∷ Passed ∷ Refused JobUnfinished ∷ Ticked 1 8 ∷ Refused JobUnfinished ∷ Ticked 1 8 ∷ Passed ∷ Refused NotHeld ∷ []
unfolding answers_of refusal sum least charge serves witness first_unserved ahead rank word
questions = refl

pub clock_at_end : answer (record { row = λ _. 1; table = λ j n. n; clock = 1000000000; slot = λ _. blank }) Tick ≡ Refused ClockAtEnd
unfolding refusal
clock_at_end = refl

-- the entries behind the release of task 1 in the first example
abbrev behind : List Entry
behind = (Tick, Ticked 1 1) ∷ (Tick, Ticked 1 1) ∷ (Tick, Ticked 1 2) ∷ (Tick, Ticked 1 2) ∷ (Release 0 2, Refused TooSoon) ∷ (Tick, Ticked 1 2) ∷ (Release 0 1, Passed) ∷ (Tick, Ticked 1 1) ∷ (Tick, Ticked 1 0) ∷ []

-- seven ticks passed; the stretches of the jobs that were released at clock 0 have ended, with 2 and 3 ticks; the third tick that
-- names task 0 is of its next job
pub stretches : (clock_of behind ≡ 7) × (namings 0 (stretch 0 5 behind) ≡ 2) × (namings 1 (stretch 1 6 behind) ≡ 3) × (namings 0 behind ≡ 3) × (to_come 0 5 behind ≡ 0) × (to_come 1 6 behind ≡ 0) × (to_come 1 9 behind ≡ 2)
unfolding clock_of namings stretch to_come
stretches = (refl, refl, refl, refl, refl, refl, refl)

-- a withdrawal ends a stretch, one that is refused does not, and neither does another task's
pub withdrawals : (to_come 1 6 ((Tick, Ticked 1 2) ∷ (Withdraw 1, Passed) ∷ []) ≡ 0) × (to_come 1 6 ((Tick, Ticked 1 2) ∷ (Withdraw 1, Refused JobUnfinished) ∷ []) ≡ 5) × (to_come 1 6 ((Tick, Ticked 1 2) ∷ (Withdraw 0, Passed) ∷ []) ≡ 5)
unfolding to_come
withdrawals = (refl, refl, refl)

-- the deadline of the last admission that passed
pub deadlines : deadline_of 0 ((Admit 0 2 5 5, LevelIs 1) ∷ (Withdraw 0, Passed) ∷ (Admit 0 1 9 7, LevelIs 1) ∷ (Admit 0 1 8 8, Refused NumberTaken) ∷ (Admit 1 1 8 6, LevelIs 1) ∷ []) ≡ 7
unfolding deadline_from
deadlines = refl

-- the word 13 names the tasks 0, 2 and 3
pub three_named : named_by 13 ≡ 3
unfolding sum
three_named = refl
