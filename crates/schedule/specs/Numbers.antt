-- The numbers by which refusals are reported, and the task that one of them names. Assumes nothing.
use Rattle.std.specs.Prelude.{ℕ, Some, None, Option}
use Rattle.schedule.specs.declared.Refusal.{Refusal}
use Rattle.schedule.specs.declared.Refusal.TheVariants.{NumberTooLarge, BadCard, NumberTaken, NoLevel, NotHeld, JobUnfinished, BadRunTime, TooSoon, ClockAtEnd}

abbrev pub number_of : Refusal → ℕ
number_of NumberTooLarge = 21
number_of BadCard = 22
number_of NumberTaken = 23
number_of (NoLevel k) = 24
number_of NotHeld = 25
number_of JobUnfinished = 26
number_of BadRunTime = 27
number_of TooSoon = 28
number_of ClockAtEnd = 29

-- the task without a level that a refusal by 24 names; the others name none
abbrev pub task_named : Refusal → Option ℕ
task_named NumberTooLarge = None
task_named BadCard = None
task_named NumberTaken = None
task_named (NoLevel k) = Some k
task_named NotHeld = None
task_named JobUnfinished = None
task_named BadRunTime = None
task_named TooSoon = None
task_named ClockAtEnd = None
