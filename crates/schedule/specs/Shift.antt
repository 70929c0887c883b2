-- The promise over a whole shift of calls. Assumes nothing.
use Rattle.std.specs.Prelude.{◌≡◌, ℕ, ◌<◌, ◌≤◌, List, [], ◌∷◌, ◌++◌}
use Rattle.supply.specs.Window.{Bounded, Windows}
use Rattle.schedule.specs.declared.Call.{Call}
use Rattle.schedule.specs.declared.Call.TheVariants.{Release}
use Rattle.schedule.specs.declared.Answer.{Answer}
use Rattle.schedule.specs.declared.Answer.TheVariants.{Level as LevelIs, Passed, Ticked}
use Rattle.schedule.specs.State.{State, fresh}
use Rattle.schedule.specs.Test.{LeastLevel}
use Rattle.schedule.specs.Calls.{answer, after, task_of}
use Rattle.schedule.specs.Order.{names}
use Rattle.schedule.specs.Entries.{Entry, calls_of, named_by, clock_of, ran_for, left_for, UnderWay}

-- the entries of a list of calls, made from a state
unfoldable pub shift : State → List Call → List Entry
shift s [] = []
shift s (c ∷ cs) = (c, answer s c) ∷ shift (after s c) cs

-- the answers of a list of calls
unfoldable pub answers_of : State → List Call → List Answer
answers_of s [] = []
answers_of s (c ∷ cs) = answer s c ∷ answers_of (after s c) cs

-- the state behind a list of calls
unfoldable pub after_all : State → List Call → State
after_all s [] = s
after_all s (c ∷ cs) = after_all (after s c) cs

-- j is the least level that serves the task of a call, among those that are held behind it
abbrev pub Served : State → Call → ℕ → Type 0
Served s c j = LeastLevel (after s c).table (after s c).slot (task_of c) j

-- what holds of the entries of a shift, and of the row of the supply at the making of the dispatcher
pub record ShiftLaw (row : ℕ → ℕ) (table : ℕ → ℕ → ℕ) (entries : List Entry) : Type 0 where
  -- every job runs for no more than its run time in its stretch, and for no less by the stretch's end
  pub jobs : (before behind : List Entry) (id run : ℕ) → entries ≡ before ++ ((Release id run, Passed) ∷ behind) →
      (ran_for id before behind ≤ run) × (left_for id before behind ≡ 0 → ran_for id before behind ≡ run)
  -- every tick is given the processors that the row has for its clock, names no more tasks than these, and each of them has a job under way
  pub ticked : (before behind : List Entry) (c : Call) (g word : ℕ) → entries ≡ before ++ ((c, Ticked g word) ∷ behind) →
      (g ≡ row (clock_of before)) × (named_by word ≤ g) × ((id : ℕ) → 0 < names word id → UnderWay id before)
  -- every answer is the one that is laid down for the calls before it
  pub answers : (before behind : List Entry) (c : Call) (a : Answer) → entries ≡ before ++ ((c, a) ∷ behind) → a ≡ answer (after_all (fresh row table) (calls_of before)) c
  -- a level that is answered is from 1 to 8, serves the task among those that are held then, and none below it does
  pub levels : (before behind : List Entry) (c : Call) (j : ℕ) → entries ≡ before ++ ((c, LevelIs j) ∷ behind) → Served (after_all (fresh row table) (calls_of before)) c j

-- over every supply that keeps its window law, and for every list of calls
abbrev pub Guarantee : Type 0
Guarantee = (row : ℕ → ℕ) (table : ℕ → ℕ → ℕ) → Bounded row → Windows row table → (calls : List Call) → ShiftLaw row table (shift (fresh row table) calls)
