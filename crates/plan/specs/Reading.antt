-- What a plan text means: the questions in their order, line after line. Assumes nothing.
use Rattle.std.specs.Prelude.{ℕ, ◌+◌, ◌-◌, Bool, true, false, cond, not, ◌&&◌, ◌||◌, List, [], ◌∷◌, ◌++◌, map, length, Ok, Err, Result, ◌==◌, nat_le, nat_lt, slice_index, slice_index_or}
use Rattle.plan.specs.declared.fault.Cause.{Cause}
use Rattle.plan.specs.declared.fault.Cause.TheVariants.{TextTooLong, LineNotEnded, UnknownLine, FieldCount, RowNumber, RowPeriod, RowMarks, CycleTooLong, NoRow, TaskNumber, TaskTimes}
use Rattle.plan.specs.declared.fault.Fault.{Fault}
use Rattle.plan.specs.Parts.{Part, digits, marks, wrong, line_in, bytes_in, value_in, Content, row, task}
use Rattle.plan.specs.Rows.{cycle_of, has}
use Rattle.plan.specs.Marks.{all_marks, given}
use Rattle.task.specs.Task.{Task}
use Rattle.text.specs.Bytes.{parts}

-- a question: at a no the fault, else what follows
abbrev pub ask : {X : Type 0} → Bool → Fault → Result X Fault → Result X Fault
ask true fault next = next
ask false fault next = Err fault

abbrev pub and_then : {X Y : Type 0} → Result X Fault → (X → Result Y Fault) → Result Y Fault
and_then (Ok x) next = next x
and_then (Err f) next = Err f

-- what the lines so far say: the rows by their marks, and the tasks, both in the order of their lines
pub record Contents : Type 0 where
  pub rows : List (List Bool)
  pub tasks : List Task

-- ---- the fields of a line

-- the first field is this one letter
abbrev pub letter : ℕ → List (List ℕ) → Bool
letter l fields = length (slice_index_or fields 0 []) == 1 && slice_index (slice_index_or fields 0 []) 0 == l

abbrev pub at : Cause → ℕ → ℕ → Fault
at why line field = record { cause = why; line = line; field = field }

-- field k of the line, counted from 1
abbrev pub digits_at : List (List ℕ) → ℕ → ℕ → Part
digits_at fields line k = digits (slice_index_or fields (k - 1) []) line k

abbrev pub marks_at : List (List ℕ) → ℕ → ℕ → Part
marks_at fields line k = marks (slice_index_or fields (k - 1) []) line k

-- a line by its fields: a row begins with S and has four, a task begins with T and has five
abbrev pub content : ℕ → List (List ℕ) → Result Content Fault
content line fields =
    ask (letter 83 fields || letter 84 fields) (at UnknownLine line 1)
    (cond (letter 83 fields)
    (ask (length fields == 4) (at FieldCount line 0) (Ok (row (digits_at fields line 2) (digits_at fields line 3) (marks_at fields line 4))))
    (ask (length fields == 5) (at FieldCount line 0) (Ok (task (digits_at fields line 2) (digits_at fields line 3) (digits_at fields line 4) (digits_at fields line 5)))))

-- ---- rows and tasks

abbrev pub with_row : Contents → Part → Part → Part → Result Contents Fault
with_row so n p m =
    and_then (value_in n) (λ number.
    and_then (value_in p) (λ period.
    ask (number == length so.rows && (nat_lt number 8 && length so.tasks == 0)) (wrong RowNumber n)
    (ask (nat_le 1 period && nat_le period 64) (wrong RowPeriod p)
    (ask (length (bytes_in m) == period && all_marks (bytes_in m)) (wrong RowMarks m)
    (ask (nat_le (cycle_of (map length (so.rows ++ given (bytes_in m) ∷ []))) 512) (wrong CycleTooLong p)
    (Ok (record { rows = so.rows ++ given (bytes_in m) ∷ []; tasks = so.tasks })))))))

abbrev pub with_task : Contents → Part → Part → Part → Part → Result Contents Fault
with_task so n c t d =
    and_then (value_in n) (λ id.
    and_then (value_in c) (λ run.
    and_then (value_in t) (λ period.
    and_then (value_in d) (λ deadline.
    ask (nat_lt 0 (length so.rows)) (at NoRow (line_in n) 1)
    (ask (nat_lt id 32 && not (has id (map (λ k. k.id) so.tasks))) (wrong TaskNumber n)
    (ask (nat_le 1 period && nat_le period 4096) (wrong TaskTimes t)
    (ask (nat_le 1 deadline && nat_le deadline period) (wrong TaskTimes d)
    (ask (nat_le 1 run && nat_le run deadline) (wrong TaskTimes c)
    (Ok (record { rows = so.rows; tasks = so.tasks ++ record { id = id; run = run; period = period; deadline = deadline } ∷ [] }))))))))))

abbrev pub with_content : Contents → Content → Result Contents Fault
with_content so (row n p m) = with_row so n p m
with_content so (task n c t d) = with_task so n c t d

-- ---- the whole text

-- what the lines from this one on say: each ends in byte 10 after at most 96 bytes, and nothing stands behind the last byte 10
abbrev pub with_lines : ℕ → Contents → List (List ℕ) → Result Contents Fault
with_lines line so [] = Ok so
with_lines line so (rest ∷ []) = ask (length rest == 0) (at LineNotEnded line 0) (Ok so)
with_lines line so (one ∷ next ∷ others) =
    ask (nat_le (length one) 96) (at LineNotEnded line 0)
    (and_then (content line (parts 44 one)) (λ c.
    and_then (with_content so c) (λ more.
    with_lines (line + 1) more (next ∷ others))))

abbrev pub empty : Contents
empty = record { rows = []; tasks = [] }

abbrev pub reading : List ℕ → Result Contents Fault
reading text =
    ask (nat_le (length text) 8192) (at TextTooLong 0 0)
    (and_then (with_lines 1 empty (parts 10 text)) (λ so.
    ask (nat_lt 0 (length so.rows)) (at NoRow 0 0)
    (Ok so)))
