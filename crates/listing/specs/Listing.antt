-- The listing of a plan text, byte for byte. Assumes nothing.
use Rattle.std.specs.Prelude.{◌≡◌, ℕ, ◌⊎◌, List, [], ◌∷◌, ◌++◌, map, length, Ok, Err, codes, decimal, Result}
use Rattle.std.specs.Option.{unwrap_or}
use Rattle.plan.specs.declared.fault.Fault.{Fault}
use Rattle.plan.specs.Faults.{cause_number}
use Rattle.plan.specs.Reading.{Contents, reading}
use Rattle.plan.specs.Rows.{cycle_of}
use Rattle.rack.specs.Slots.{slot_row, slot_table}
use Rattle.schedule.specs.declared.Call.{Call}
use Rattle.schedule.specs.declared.Call.TheVariants.{Admit}
use Rattle.schedule.specs.declared.Refusal.TheVariants.{NoLevel}
use Rattle.schedule.specs.declared.Answer.{Answer}
use Rattle.schedule.specs.declared.Answer.TheVariants.{Level as LevelIs, Passed, Ticked, Refused}
use Rattle.schedule.specs.Calls.{answer, after}
use Rattle.schedule.specs.Numbers.{task_named}
use Rattle.schedule.specs.Shift.{after_all}
use Rattle.schedule.specs.State.{State, fresh}
use Rattle.task.specs.Task.{Task}

-- fields behind a first one, each after a comma, and byte 10 at the end of the line
abbrev pub ending : List (List ℕ) → List ℕ
ending [] = 10 ∷ []
ending (f ∷ fs) = 44 ∷ (f ++ ending fs)

-- the line of a plan at fault
abbrev pub fault_line : ℕ → ℕ → ℕ → List ℕ
fault_line cause line field = codes "fault" ++ ending (decimal cause ∷ decimal line ∷ decimal field ∷ [])

-- the line of the rack: how many rows it has, and its cycle
abbrev pub rack_line : ℕ → ℕ → List ℕ
rack_line rows cycle = codes "rack" ++ ending (decimal rows ∷ decimal cycle ∷ [])

-- the line of a task: yes and its level, or no and the task that has none
abbrev pub yes_line : ℕ → ℕ → List ℕ
yes_line id level = decimal id ++ ending (codes "yes" ∷ decimal level ∷ [])

abbrev pub no_line : ℕ → ℕ → List ℕ
no_line id task = decimal id ++ ending (codes "no" ∷ decimal task ∷ [])

-- by what its admission was answered; in a listing an admission is refused only for want of a level
abbrev pub task_line : ℕ → Answer → List ℕ
task_line id (LevelIs j) = yes_line id j
task_line id Passed = []
task_line id (Ticked g word) = []
task_line id (Refused r) = no_line id (unwrap_or (task_named r) 0)

-- the admission of a task
abbrev pub admission : Task → Call
admission t = Admit t.id t.run t.period t.deadline

-- the tasks are admitted in turn, each from the state that the one before it left
unfoldable pub task_lines : State → List Task → List ℕ
task_lines s [] = []
task_lines s (t ∷ ts) = task_line t.id (answer s (admission t)) ++ task_lines (after s (admission t)) ts

-- a dispatcher as it is made over a plan's slot rack
abbrev pub over_rack : Contents → State
over_rack c = fresh (slot_row c.rows) (slot_table c.rows)

-- what is listed of a plan, or of its fault
abbrev pub listed : Result Contents Fault → List ℕ
listed (Ok c) = rack_line (length c.rows) (cycle_of (map length c.rows)) ++ task_lines (over_rack c) c.tasks
listed (Err f) = fault_line (cause_number f.cause) f.line f.field

abbrev pub listing : List ℕ → List ℕ
listing text = listed (reading text)

-- ---- the verdicts

-- a level, or a refusal for want of one
abbrev pub Verdict : Answer → Type 0
Verdict a = ((j : ℕ) × (a ≡ LevelIs j)) ⊎ ((k : ℕ) × (a ≡ Refused (NoLevel k)))

-- each task of a plan has its verdict when the tasks before it have been put: no other refusal occurs
abbrev pub Verdicts : List ℕ → Type 0
Verdicts text = (c : Contents) → reading text ≡ Ok c → (before behind : List Task) (t : Task) → c.tasks ≡ before ++ (t ∷ behind) → Verdict (answer (after_all (over_rack c) (map admission before)) (admission t))
