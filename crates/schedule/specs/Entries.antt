-- What can be told of a shift from its calls and their answers alone. Assumes nothing.
use Rattle.std.specs.Prelude.{◌≡◌, ℕ, ◌+◌, ◌-◌, ◌<◌, Bool, true, false, cond, ◌&&◌, ◌||◌, List, [], ◌∷◌, ◌++◌, ◌==◌}
use Rattle.schedule.specs.declared.Call.{Call}
use Rattle.schedule.specs.declared.Call.TheVariants.{Admit, Level, Withdraw, Release, Tick}
use Rattle.schedule.specs.declared.Answer.{Answer}
use Rattle.schedule.specs.declared.Answer.TheVariants.{Level as LevelIs, Passed, Ticked, Refused}
use Rattle.schedule.specs.Counting.{sum}
use Rattle.schedule.specs.Order.{names}

-- a call that was made, and its answer
abbrev pub Entry : Type 0
Entry = Call × Answer

-- the calls of a list of entries
unfoldable pub calls_of : List Entry → List Call
calls_of [] = []
calls_of (e ∷ es) = e.0 ∷ calls_of es

-- how many tasks a word names
abbrev pub named_by : ℕ → ℕ
named_by word = sum 32 (names word)

-- 1 for a tick that passed; else 0
abbrev pub ticks : Answer → ℕ
ticks (LevelIs j) = 0
ticks Passed = 0
ticks (Ticked g word) = 1
ticks (Refused r) = 0

-- 1 for a tick that passed and names task id; else 0
abbrev pub naming : ℕ → Answer → ℕ
naming id (LevelIs j) = 0
naming id Passed = 0
naming id (Ticked g word) = names word id
naming id (Refused r) = 0

-- the clock behind some entries: the ticks that passed
unfoldable pub clock_of : List Entry → ℕ
clock_of [] = 0
clock_of (e ∷ es) = ticks e.1 + clock_of es

-- how many ticks of some entries name task id
unfoldable pub namings : ℕ → List Entry → ℕ
namings id [] = 0
namings id (e ∷ es) = naming id e.1 + namings id es

-- the call was not refused
abbrev pub accepted : Answer → Bool
accepted (LevelIs j) = true
accepted Passed = true
accepted (Ticked g word) = true
accepted (Refused r) = false

-- the call is a withdrawal of task id
abbrev pub withdraws : ℕ → Call → Bool
withdraws id (Admit i run period deadline) = false
withdraws id (Level i) = false
withdraws id (Withdraw i) = i == id
withdraws id (Release i run) = false
withdraws id Tick = false

-- task id is withdrawn
abbrev pub leaves : ℕ → Entry → Bool
leaves id e = accepted e.1 && withdraws id e.0

-- the deadline that a call gives to task id, if it is an admission of it; else d
abbrev pub deadline_by : ℕ → Call → ℕ → ℕ
deadline_by id (Admit i run period deadline) d = cond (i == id) deadline d
deadline_by id (Level i) d = d
deadline_by id (Withdraw i) d = d
deadline_by id (Release i run) d = d
deadline_by id Tick d = d

-- the deadline of the last admission of task id that passed among some entries; d, where there is none
unfoldable pub deadline_from : ℕ → ℕ → List Entry → ℕ
deadline_from id d [] = d
deadline_from id d (e ∷ es) = deadline_from id (cond (accepted e.1) (deadline_by id e.0 d) d) es

-- the deadline of task id behind the entries
abbrev pub deadline_of : ℕ → List Entry → ℕ
deadline_of id es = deadline_from id 0 es

-- the stretch of a job of task id with n ticks to its deadline: the front of the entries behind its release, up to the n-th tick
-- that passes, or up to the next withdrawal of the task
unfoldable pub stretch : ℕ → ℕ → List Entry → List Entry
stretch id n [] = []
stretch id n (e ∷ es) = cond (n == 0 || leaves id e) [] (e ∷ stretch id (n - ticks e.1) es)

-- how many ticks of that stretch are still to come behind all the entries; none, where the stretch has ended
unfoldable pub to_come : ℕ → ℕ → List Entry → ℕ
to_come id n [] = n
to_come id n (e ∷ es) = cond (leaves id e) 0 (to_come id (n - ticks e.1) es)

-- the ticks that name id in the stretch of its job whose release stands between the entries before and behind
abbrev pub ran_for : ℕ → List Entry → List Entry → ℕ
ran_for id before behind = namings id (stretch id (deadline_of id before) behind)

-- the ticks of that stretch that are still to come; none, where it has ended
abbrev pub left_for : ℕ → List Entry → List Entry → ℕ
left_for id before behind = to_come id (deadline_of id before) behind

-- task id has a release among the entries whose stretch has not ended behind them
pub record UnderWay (id : ℕ) (entries : List Entry) : Type 0 where
  pub before : List Entry
  pub run : ℕ
  pub behind : List Entry
  pub split : entries ≡ before ++ ((Release id run, Passed) ∷ behind)
  pub goes_on : 0 < left_for id before behind
