-- What a dispatcher stands for, and what its calls answer. Assumes nothing.
use Rattle.std.specs.Prelude.{ℕ, None, Option, Ok, Err, Result, nat_lt}
use Rattle.schedule.specs.Row.{TaskRow}
use Rattle.schedule.specs.declared.Refusal.{Refusal}
use Rattle.schedule.specs.declared.Refusal.TheVariants.{NumberTooLarge, NotHeld}
use Rattle.schedule.specs.declared.Answer.{Answer}
use Rattle.schedule.specs.declared.Answer.TheVariants.{Level as LevelIs, Passed, Ticked, Refused}
use Rattle.schedule.specs.State.{State}
use Rattle.schedule.specs.Calls.{ask}
use Rattle.dispatch.specs.declared.dispatcher.Dispatcher.{Dispatcher}
use Rattle.dispatch.specs.Rows.{slots}

-- the state of a dispatcher, by the row and the table that its supply stands for
abbrev pub state_of : {S : Type 0} → (S → ℕ → ℕ) → (S → ℕ → ℕ → ℕ) → Dispatcher S → State
state_of row table d = record { row = row d.supply; table = table d.supply; clock = d.clock; slot = slots d.tasks.table.rows }

-- why a call that asks for a task is refused before all else: its number is too large, or it is not held
abbrev pub unheld : (ℕ → TaskRow) → ℕ → Option Refusal
unheld slot id = ask (nat_lt id 32) NumberTooLarge (ask (slot id).held NotHeld None)

-- the answer of a call that answers a level
abbrev pub level_answer : Result ℕ Refusal → Answer
level_answer (Ok j) = LevelIs j
level_answer (Err r) = Refused r

-- the answer of a call that answers only that it passed
abbrev pub pass_answer : Result (Unit {0}) Refusal → Answer
pass_answer (Ok _) = Passed
pass_answer (Err r) = Refused r

-- the answer of a call that answers processors and a word
abbrev pub tick_answer : Result (ℕ × ℕ) Refusal → Answer
tick_answer (Ok p) = Ticked p.0 p.1
tick_answer (Err r) = Refused r
