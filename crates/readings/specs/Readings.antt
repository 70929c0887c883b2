-- Twelve worked readings, over the definitions themselves. Assumes nothing.
use Rattle.std.specs.Prelude.{◌≡◌, ℕ, zero, suc, ◌-◌, Bool, true, false, List, [], ◌∷◌, ◌++◌, length, drop, Ok, codes}
use Rattle.plan.specs.Reading.{reading}
use Rattle.rack.specs.Slots.{slot_row, slot_table}
use Rattle.schedule.specs.declared.Call.{Call}
use Rattle.schedule.specs.declared.Call.TheVariants.{Admit, Level, Release, Tick}
use Rattle.schedule.specs.declared.Refusal.TheVariants.{NoLevel, TooSoon}
use Rattle.schedule.specs.declared.Answer.{Answer}
use Rattle.schedule.specs.declared.Answer.TheVariants.{Level as LevelIs, Passed, Ticked, Refused}
use Rattle.schedule.specs.Shift.{answers_of}
use Rattle.schedule.specs.State.{State, fresh}
use Rattle.supply.specs.Supplies.{steady_row, steady_table, narrowed_table, joined_table}

-- ---- the supplies

-- rack A, by its plan text and by the marks of its two rows
abbrev pub text_a : List ℕ
text_a = codes "S,0,4,1100\nS,1,8,11110000\n"

abbrev pub rows_a : List (List Bool)
rows_a = (true ∷ true ∷ false ∷ false ∷ []) ∷ (true ∷ true ∷ true ∷ true ∷ false ∷ false ∷ false ∷ false ∷ []) ∷ []

abbrev pub table_a : ℕ → ℕ → ℕ
table_a = slot_table rows_a

-- dispatchers as they are made over rack A and over a steady rack
abbrev pub over_a : State
over_a = fresh (slot_row rows_a) table_a

abbrev pub over_steady : ℕ → State
over_steady m = fresh (steady_row m) (steady_table m)

-- ---- the calls

-- n tasks of one card, numbered from 0
unfoldable pub admissions : ℕ → ℕ → ℕ → ℕ → List Call
admissions zero run period deadline = []
admissions (suc n) run period deadline = admissions n run period deadline ++ (Admit n run period deadline ∷ [])

-- the level questions of n tasks
unfoldable pub questions : ℕ → List Call
questions zero = []
questions (suc n) = questions n ++ (Level n ∷ [])

unfoldable pub times : {X : Type 0} → ℕ → X → List X
times zero x = []
times (suc n) x = x ∷ times n x

-- n tasks are admitted in turn, and then all their levels are asked for
abbrev pub levels_of : ℕ → ℕ → ℕ → ℕ → List Call
levels_of n run period deadline = admissions n run period deadline ++ questions n

-- the last n of some answers
abbrev pub last_of : ℕ → List Answer → List Answer
last_of n answers = drop (length answers - n) answers

-- two tasks on one processor, both released in full at clock 0
abbrev pub two_tasks : List Call
two_tasks = Admit 0 2 5 5 ∷ Admit 1 3 7 6 ∷ Release 0 2 ∷ Release 1 3 ∷ []

-- ---- the readings

pub record Readings : Type 0 where
  -- rack A is what its text says
  pub read : reading text_a ≡ Ok (record { rows = rows_a; tasks = [] })
  -- level 1 of rack A, at 2 and 3 ticks
  pub one_at_a_time : (table_a 1 2 ≡ 0) × (table_a 1 3 ≡ 1)
  -- level 2, at 6 and 7 ticks
  pub two_at_a_time : (table_a 2 6 ≡ 4) × (table_a 2 7 ≡ 6)
  -- longer than the cycle: level 2 at 10 ticks, level 1 at 16
  pub past_the_cycle : (table_a 2 10 ≡ 8) × (table_a 1 16 ≡ 12)
  -- no ticks contain nothing, at every level
  pub no_ticks : (j : ℕ) → table_a j 0 ≡ 0
  -- rack A narrowed to 1
  pub narrowed : narrowed_table 1 table_a 2 7 ≡ 5
  -- rack A joined with one steady processor
  pub joined : joined_table table_a (steady_table 1) 2 3 ≡ 4
  -- five cards (2, 6, 6) on two steady processors: level 2 each
  pub five_fit : last_of 5 (answers_of (over_steady 2) (levels_of 5 2 6 6)) ≡ times 5 (LevelIs 2)
  -- a sixth leaves task 0 without a level
  pub sixth_refused : last_of 1 (answers_of (over_steady 2) (admissions 6 2 6 6)) ≡ Refused (NoLevel 0) ∷ []
  -- six cards (1, 8, 8) on rack A: level 1 each; with a seventh: level 2 each
  pub six_then_seven : (last_of 6 (answers_of over_a (levels_of 6 1 8 8)) ≡ times 6 (LevelIs 1)) × (last_of 7 (answers_of over_a (levels_of 7 1 8 8)) ≡ times 7 (LevelIs 2))
  -- an eighth leaves task 0 without a level
  pub eighth_refused : last_of 1 (answers_of over_a (admissions 8 1 8 8)) ≡ Refused (NoLevel 0) ∷ []
  -- the words of six ticks
  pub words : last_of 6 (answers_of (over_steady 1) (two_tasks ++ times 6 Tick)) ≡ Ticked 1 1 ∷ Ticked 1 1 ∷ Ticked 1 2 ∷ Ticked 1 2 ∷ Ticked 1 2 ∷ Ticked 1 0 ∷ []
  -- task 0 released again at clock 4 comes too soon, and at clock 5 passes
  pub released_again : (last_of 1 (answers_of (over_steady 1) (two_tasks ++ (times 4 Tick ++ (Release 0 2 ∷ [])))) ≡ Refused TooSoon ∷ []) × (last_of 1 (answers_of (over_steady 1) (two_tasks ++ (times 5 Tick ++ (Release 0 2 ∷ [])))) ≡ Passed ∷ [])
