-- The five calls: what each answers, and the state behind it. Assumes nothing.
use Rattle.std.specs.Prelude.{◌≡◌, ℕ, suc, ◌+◌, Bool, true, cond, not, ◌&&◌, Some, None, Option, ◌==◌, nat_le, nat_lt}
use Rattle.task.specs.Task.{timely}
use Rattle.schedule.specs.Row.{TaskRow}
use Rattle.schedule.specs.declared.Call.{Call}
use Rattle.schedule.specs.declared.Call.TheVariants.{Admit, Level, Withdraw, Release, Tick}
use Rattle.schedule.specs.declared.Refusal.{Refusal}
use Rattle.schedule.specs.declared.Refusal.TheVariants.{NumberTooLarge, BadCard, NumberTaken, NoLevel, NotHeld, JobUnfinished, BadRunTime, TooSoon, ClockAtEnd}
use Rattle.schedule.specs.declared.Answer.{Answer}
use Rattle.schedule.specs.declared.Answer.TheVariants.{Level as LevelIs, Passed, Ticked, Refused}
use Rattle.schedule.specs.Counting.{least}
use Rattle.schedule.specs.State.{State, blank, with_job, put}
use Rattle.schedule.specs.Test.{witness, first_unserved, passes}
use Rattle.schedule.specs.Order.{unfinished, runs, word, spent}

-- a question, the refusal where the answer is no, and the questions after it
abbrev pub ask : Bool → Refusal → Option Refusal → Option Refusal
ask holds r rest = cond holds rest (Some r)

-- 1 ≤ run time ≤ deadline ≤ period ≤ 4,096
abbrev pub sound : ℕ → ℕ → ℕ → Bool
sound = timely

-- the row of a task that was just admitted
abbrev pub admitted : ℕ → ℕ → ℕ → TaskRow
admitted run period deadline = record { held = true; run = run; period = period; deadline = deadline; latest = None; lacking = 0 }

-- the row of a task whose job was just released at a clock
abbrev pub released : ℕ → ℕ → TaskRow → TaskRow
released at run r = with_job r (Some at) run

-- no task has an unfinished job
abbrev pub quiet : (ℕ → TaskRow) → Bool
quiet slot = least 32 (λ i. unfinished (slot i)) == 32

-- a task may be released at a clock: it was not yet since its admission, or its period has passed
abbrev pub ready : ℕ → ℕ → Option ℕ → Bool
ready at period None = true
ready at period (Some latest) = nat_le (latest + period) at

-- why a call is refused: the first question whose answer is no
unfoldable pub refusal : State → Call → Option Refusal
refusal s (Admit id run period deadline) =
    ask (nat_lt id 32) NumberTooLarge
    (ask (sound run period deadline) BadCard
    (ask (not (s.slot id).held) NumberTaken
    (ask (passes s.table (put s.slot id (admitted run period deadline))) (NoLevel (first_unserved s.table (put s.slot id (admitted run period deadline))))
    None)))
refusal s (Level id) = ask (nat_lt id 32) NumberTooLarge (ask (s.slot id).held NotHeld None)
refusal s (Withdraw id) =
    ask (nat_lt id 32) NumberTooLarge
    (ask (s.slot id).held NotHeld
    (ask (quiet s.slot) JobUnfinished
    None))
refusal s (Release id run) =
    ask (nat_lt id 32) NumberTooLarge
    (ask (s.slot id).held NotHeld
    (ask (nat_le 1 run && nat_le run (s.slot id).run) BadRunTime
    (ask (ready s.clock (s.slot id).period (s.slot id).latest) TooSoon
    None)))
refusal s Tick = ask (nat_lt s.clock 1000000000) ClockAtEnd None

-- what a call that is not refused answers
abbrev pub reply : State → Call → Answer
reply s (Admit id run period deadline) = LevelIs (witness s.table (put s.slot id (admitted run period deadline)) id)
reply s (Level id) = LevelIs (witness s.table s.slot id)
reply s (Withdraw id) = Passed
reply s (Release id run) = Passed
reply s Tick = Ticked (s.row 0) (word s.slot (s.row 0))

-- the state with other rows
abbrev pub with_rows : State → (ℕ → TaskRow) → State
with_rows s slot = record { row = s.row; table = s.table; clock = s.clock; slot = slot }

-- the state behind a call that is not refused
abbrev pub changed : State → Call → State
changed s (Admit id run period deadline) = with_rows s (put s.slot id (admitted run period deadline))
changed s (Level id) = s
changed s (Withdraw id) = with_rows s (put s.slot id blank)
changed s (Release id run) = with_rows s (put s.slot id (released s.clock run (s.slot id)))
changed s Tick = record { row = λ x. s.row (suc x); table = s.table; clock = s.clock + 1; slot = λ i. spent (runs s.slot (s.row 0) i) (s.slot i) }

-- the answer where there is a refusal, or none
abbrev pub answer_by : Option Refusal → Answer → Answer
answer_by None a = a
answer_by (Some r) a = Refused r

-- the state where there is a refusal, or none
abbrev pub state_by : Option Refusal → State → State → State
state_by None old new = new
state_by (Some r) old new = old

-- the task that a call is about; a tick is about none in particular
abbrev pub task_of : Call → ℕ
task_of (Admit id run period deadline) = id
task_of (Level id) = id
task_of (Withdraw id) = id
task_of (Release id run) = id
task_of Tick = 0

-- what a call answers
abbrev pub answer : State → Call → Answer
answer s c = answer_by (refusal s c) (reply s c)

-- the state behind a call: a refusal leaves it
abbrev pub after : State → Call → State
after s c = state_by (refusal s c) s (changed s c)

-- a call that is refused leaves the state
abbrev pub RefusalLaw : Type 0
RefusalLaw = (s : State) (c : Call) (r : Refusal) → answer s c ≡ Refused r → after s c ≡ s
