-- No listing is longer than it has room for. Assumes nothing.
use Rattle.std.proofs.Common.{◌≡◌, ℕ, suc, ◌*◌, ◌^◌, ◌<◌, ◌≤◌, Bool, true, false, not, ltb, List, [], ◌∷◌, map, length, IfSome, Some, None, Ok, Err, decimal, Option, unwrap_or, ap, arith, length-append}
use Rattle.std.proofs.lemmas.Fmt.{length-decimal-le}
use Rattle.std.proofs.lemmas.Bool.{cond_both, ltb-true}
use Rattle.plan.specs.declared.fault.Fault.{Fault}
use Rattle.plan.specs.Faults.{cause_number}
use Rattle.plan.specs.Reading.{Contents}
use Rattle.plan.specs.Rows.{cycle_of}
use Rattle.task.specs.Task.{Task, task_of, timely}
use Rattle.task.specs.declared.card.Card.{Card}
use Rattle.schedule.specs.declared.Refusal.{Refusal}
use Rattle.schedule.specs.declared.Refusal.TheVariants.{NumberTooLarge, BadCard, NumberTaken, NoLevel}
use Rattle.schedule.specs.declared.Call.TheVariants.{Admit}
use Rattle.schedule.specs.declared.Answer.TheVariants.{Level as LevelIs}
use Rattle.schedule.specs.Calls.{ask, answer, after, answer_by, refusal, admitted}
use Rattle.schedule.specs.Counting.{least}
use Rattle.schedule.specs.Numbers.{task_named}
use Rattle.schedule.specs.State.{State, put}
use Rattle.schedule.specs.Row.{TaskRow}
use Rattle.schedule.specs.Test.{level_from, witness, first_unserved, serves, unserved, passes}
use Rattle.schedule.proofs.Searches.{least_le}
use Rattle.listing.specs.Listing.{fault_line, rack_line, yes_line, no_line, admission, task_line, task_lines, over_rack, listed}

two : (n : ℕ) → n < 100 → length (decimal n) ≤ 2
two n small = length-decimal-le 2 n (omega arith) small (omega arith)

one : (n : ℕ) → n < 10 → length (decimal n) ≤ 1
one n small = length-decimal-le 1 n (omega arith) small (omega arith)

pub yes_short : (id level : ℕ) → id < 100 → level < 10 → length (yes_line id level) ≤ 9
yes_short id level a b = simp length-append (omega (arith, two id a, one level b))

pub no_short : (id task : ℕ) → id < 100 → task < 100 → length (no_line id task) ≤ 9
no_short id task a b = simp length-append (omega (arith, two id a, two task b))

pub rack_short : (rows cycle : ℕ) → rows < 10 → cycle < 1000 → length (rack_line rows cycle) ≤ 11
rack_short rows cycle a b =
    simp length-append (omega (arith, one rows a, length-decimal-le 3 cycle (omega arith) b (omega arith)))

ten : (n : ℕ) → n < 2 ^ 32 → length (decimal n) ≤ 10
ten n fits = length-decimal-le 10 n (omega arith) (omega arith) (omega arith)

pub fault_short : (cause line field : ℕ) → cause < 2 ^ 32 → line < 2 ^ 32 → field < 2 ^ 32 → length (fault_line cause line field) ≤ 39
fault_short cause line field a b c = simp length-append (omega (arith, ten cause a, ten line b, ten field c))

-- ---- what an admission answers

level_few : (x : ℕ) → level_from x ≤ 8
level_few x = cond_both (ltb x 8) (suc x) 0 (λ y. y ≤ 8) (λ t. omega (arith, ltb-true x 8 t)) (λ _. omega arith)

witness_few : (table : ℕ → ℕ → ℕ) (slot : ℕ → TaskRow) (k : ℕ) → witness table slot k ≤ 8
unfolding witness
witness_few table slot k = level_few (least 8 (λ x. serves table slot k (suc x)))

-- the task that a refusal names has at most two digits
abbrev Named : Option Refusal → Type 0
Named o = IfSome o (λ r. unwrap_or (task_named r) 0 ≤ 32)

asked : (b : Bool) (r : Refusal) (rest : Option Refusal) → unwrap_or (task_named r) 0 ≤ 32 → Named rest → Named (ask b r rest)
asked true r rest n more = more
asked false r rest n more = n

refused_names : (s : State) (id run period deadline : ℕ) → Named (refusal s (Admit id run period deadline))
unfolding refusal first_unserved
refused_names s id run period deadline =
    let rows = put s.slot id (admitted run period deadline) in
    asked (ltb id 32) NumberTooLarge _ (omega arith)
    (asked (timely run period deadline) BadCard _ (omega arith)
    (asked (not (s.slot id).held) NumberTaken _ (omega arith)
    (asked (passes s.table rows) (NoLevel (first_unserved s.table rows)) None (least_le 32 (unserved s.table rows)) tt)))

line_by : (id : ℕ) (o : Option Refusal) (w : ℕ) → id < 32 → Named o → w ≤ 8 → length (task_line id (answer_by o (LevelIs w))) ≤ 9
line_by id None w below named few = yes_short id w (omega arith) (omega arith)
line_by id (Some r) w below named few = no_short id (unwrap_or (task_named r) 0) (omega arith) (omega (arith, named))

pub line_short : (s : State) (t : Task) → t.id < 32 → length (task_line t.id (answer s (admission t))) ≤ 9
line_short s t below =
    line_by t.id (refusal s (admission t)) _ below (refused_names s t.id t.run t.period t.deadline) (witness_few s.table (put s.slot t.id (admitted t.run t.period t.deadline)) t.id)

lines_short : (s : State) (cards : List Card) → length (task_lines s (map task_of cards)) ≤ 9 * length cards
unfolding task_lines
lines_short s [] = omega arith
lines_short s (c ∷ cards) =
    simp length-append (omega (arith, line_short s (task_of c) c.numbered, lines_short (after s (admission (task_of c))) cards))

-- ---- a whole listing

pub plan_short : (c : Contents) (cards : List Card) → length c.rows ≤ 8 → cycle_of (map length c.rows) ≤ 512 → map task_of cards ≡ c.tasks → length cards ≤ 32 → length (listed (Ok c)) ≤ 299
plan_short c cards rows cycle are few =
    omega (
      arith,
      length-append (rack_line (length c.rows) (cycle_of (map length c.rows))) (task_lines (over_rack c) c.tasks),
      rack_short (length c.rows) (cycle_of (map length c.rows)) (omega arith) (omega arith),
      lines_short (over_rack c) cards,
      ap (λ ts. length (task_lines (over_rack c) ts)) are,
    )

pub fault_fits : (f : Fault) → cause_number f.cause < 2 ^ 32 → f.line < 2 ^ 32 → f.field < 2 ^ 32 → length (listed (Err f)) ≤ 39
fault_fits f a b d = fault_short (cause_number f.cause) f.line f.field a b d
