-- A field of a line with its place, and a line by its fields. Assumes nothing.
use Rattle.std.specs.Prelude.{ℕ, List, Ok, Err, Result}
use Rattle.std.specs.Option.{ok_or}
use Rattle.plan.specs.declared.fault.Cause.{Cause}
use Rattle.plan.specs.declared.fault.Cause.TheVariants.{NotANumber}
use Rattle.plan.specs.declared.fault.Fault.{Fault}
use Rattle.plan.specs.declared.line.Field.{Field}
use Rattle.plan.specs.declared.line.Field.TheVariants.{Number, Marks}
use Rattle.plan.specs.declared.line.Line.{Line}
use Rattle.plan.specs.declared.line.Line.TheVariants.{Row, Task}
use Rattle.text.specs.Decimal.{number}

-- a field: its bytes, its line and its place in the line, both counted from 1
pub data Part : Type 0 where
  digits : List ℕ → ℕ → ℕ → Part
  marks : List ℕ → ℕ → ℕ → Part

-- the fault that is found in a field
abbrev pub wrong : Cause → Part → Fault
wrong why (digits s line field) = record { cause = why; line = line; field = field }
wrong why (marks s line field) = record { cause = why; line = line; field = field }

abbrev pub line_in : Part → ℕ
line_in (digits s line field) = line
line_in (marks s line field) = line

abbrev pub bytes_in : Part → List ℕ
bytes_in (digits s line field) = s
bytes_in (marks s line field) = s

-- the number of a number field; marks are no number
abbrev pub value_in : Part → Result ℕ Fault
value_in (digits s line field) = ok_or (number s) (wrong NotANumber (digits s line field))
value_in (marks s line field) = Err (wrong NotANumber (marks s line field))

-- a row has its number, its period and its marks; a task its number, run time, period and deadline
pub data Content : Type 0 where
  row : Part → Part → Part → Content
  task : Part → Part → Part → Part → Content

-- what a field and a line of the program stand for
abbrev pub part_of : Field → Part
part_of (Number s at) = digits s.now at.line at.field
part_of (Marks s at) = marks s.now at.line at.field

abbrev pub content_of : Line → Content
content_of (Row n p m) = row (part_of n) (part_of p) (part_of m)
content_of (Task n c t d) = task (part_of n) (part_of c) (part_of t) (part_of d)

abbrev pub content_said : Result Line Fault → Result Content Fault
content_said (Ok l) = Ok (content_of l)
content_said (Err f) = Err f
