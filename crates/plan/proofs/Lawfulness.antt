-- What passes the questions is lawful. Assumes nothing.
use Rattle.std.proofs.Common.{◌≡◌, ℕ, ◌+◌, ◌<◌, ◌≤◌, Bool, true, false, not, ◌&&◌, eqb, ltb, leb, List, [], ◌∷◌, ◌++◌, map, length, Ok, Err, Result, refl, ap, ◌∙◌, subst, arith}
use Rattle.std.proofs.ByRecursion.{All-push}
use Rattle.std.proofs.lemmas.List.{length_push, length-map, map_push}
use Rattle.std.proofs.lemmas.Bool.{eqb-true, leb-true, ltb-true, and_parts, and_from, not-true}
use Rattle.std.specs.List.{AllByRecursion}
use Rattle.task.specs.Task.{Task, timely}
use Rattle.text.specs.Bytes.{parts}
use Rattle.plan.specs.declared.fault.Fault.{Fault}
use Rattle.plan.specs.declared.fault.Cause.TheVariants.{TextTooLong, LineNotEnded, RowNumber, RowPeriod, RowMarks, CycleTooLong, NoRow, TaskNumber, TaskTimes}
use Rattle.plan.specs.Parts.{Part, wrong, line_in, bytes_in, value_in, Content, row, task}
use Rattle.plan.specs.Marks.{all_marks, given}
use Rattle.plan.specs.Rows.{cycle_of, first_from, distinct, has}
use Rattle.plan.specs.Reading.{ask, and_then, at, content, Contents, empty, with_row, with_task, with_content, with_lines, reading}
use Rattle.plan.specs.Lawful.{Lawful, ReadingLaw}
use Rattle.plan.proofs.Distinct.{distinct_push}

-- lawful, but that there may be no row yet
record SoFar (c : Contents) : Type 0 where
  few : length c.rows ≤ 8
  marked : AllByRecursion (λ marks. (1 ≤ length marks) × (length marks ≤ 64)) c.rows
  cycle : cycle_of (map length c.rows) ≤ 512
  cards : AllByRecursion (λ t. (t.id < 32) × (timely t.run t.period t.deadline ≡ true)) c.tasks
  once : distinct (map (λ t. t.id) c.tasks) ≡ true

-- what holds of all that is said, wherever there is no fault
abbrev Of : {X : Type 0} → (X → Type 0) → Result X Fault → Type 0
Of P (Ok x) = P x
Of P (Err f) = Unit {0}

asked : {X : Type 0} (P : X → Type 0) (b : Bool) (f : Fault) (r : Result X Fault) → (b ≡ true → Of P r) → Of P (ask b f r)
asked P true f r then = then refl
asked P false f r then = tt

followed : {X Y : Type 0} (P : Y → Type 0) (r : Result X Fault) (next : X → Result Y Fault) → Of (λ x. Of P (next x)) r → Of P (and_then r next)
followed P (Ok x) next each = each
followed P (Err f) next each = tt

each_value : {X : Type 0} (P : X → Type 0) (r : Result X Fault) → ((x : X) → P x) → Of P r
each_value P (Ok x) all = all x
each_value P (Err f) all = tt

-- ---- a row more, a task more

module _ (so : Contents) (old : SoFar so) where
  row_more : (n p m : Part) (number period : ℕ) → (eqb number (length so.rows) && (ltb number 8 && eqb (length so.tasks) 0)) ≡ true → (leb 1 period && leb period 64) ≡ true → (eqb (length (bytes_in m)) period && all_marks (bytes_in m)) ≡ true → leb (cycle_of (map length (so.rows ++ given (bytes_in m) ∷ []))) 512 ≡ true → SoFar (record { rows = so.rows ++ given (bytes_in m) ∷ []; tasks = so.tasks })
  row_more n p m number period place range filled round =
      let long : length (given (bytes_in m)) ≡ period = length-map (bytes_in m) (λ b. eqb b 49) ∙ eqb-true _ _ (and_parts _ _ filled).0 in
      let at-end = and_parts (eqb number (length so.rows)) (ltb number 8 && eqb (length so.tasks) 0) place in
      let in-range = and_parts (leb 1 period) (leb period 64) range in
      record {
        few = omega (arith, length_push so.rows (given (bytes_in m)), eqb-true number (length so.rows) at-end.0, ltb-true number 8 (and_parts (ltb number 8) (eqb (length so.tasks) 0) at-end.1).0);
        marked = All-push (λ marks. (1 ≤ length marks) × (length marks ≤ 64)) so.rows (given (bytes_in m)) old.marked (omega (arith, long, leb-true 1 period in-range.0), omega (arith, long, leb-true period 64 in-range.1));
        cycle = leb-true _ 512 round;
        cards = old.cards;
        once = old.once;
      }

  task_more : (t : Task) → (ltb t.id 32 && not (has t.id (map (λ k. k.id) so.tasks))) ≡ true → (leb 1 t.period && leb t.period 4096) ≡ true → (leb 1 t.deadline && leb t.deadline t.period) ≡ true → (leb 1 t.run && leb t.run t.deadline) ≡ true → SoFar (record { rows = so.rows; tasks = so.tasks ++ t ∷ [] })
  task_more t free period deadline run =
      let number = and_parts (ltb t.id 32) (not (has t.id (map (λ k. k.id) so.tasks))) free in
      let times = and_parts (leb 1 t.run) (leb t.run t.deadline) run in
      let card : timely t.run t.period t.deadline ≡ true =
      and_from _ _ times.0 (and_from _ _ times.1 (and_from _ _ (and_parts (leb 1 t.deadline) _ deadline).1 (and_parts (leb 1 t.period) _ period).1)) in
      record {
        few = old.few;
        marked = old.marked;
        cycle = old.cycle;
        cards = All-push (λ k. (k.id < 32) × (timely k.run k.period k.deadline ≡ true)) so.tasks t old.cards (ltb-true t.id 32 number.0, card);
        once = ap distinct (map_push (λ k. k.id) so.tasks t) ∙ distinct_push (map (λ k. k.id) so.tasks) t.id old.once (not-true _ number.1);
      }

  row_so : (n p m : Part) → Of SoFar (with_row so n p m)
  row_so n p m =
      followed SoFar (value_in n) _ (each_value _ (value_in n) (λ number.
      followed SoFar (value_in p) _ (each_value _ (value_in p) (λ period.
      asked SoFar (eqb number (length so.rows) && (ltb number 8 && eqb (length so.tasks) 0)) (wrong RowNumber n) _ (λ place.
      asked SoFar (leb 1 period && leb period 64) (wrong RowPeriod p) _ (λ range.
      asked SoFar (eqb (length (bytes_in m)) period && all_marks (bytes_in m)) (wrong RowMarks m) _ (λ filled.
      asked SoFar (leb (cycle_of (map length (so.rows ++ given (bytes_in m) ∷ []))) 512) (wrong CycleTooLong p) _ (λ round.
      row_more n p m number period place range filled round))))))))

  task_so : (n c t d : Part) → Of SoFar (with_task so n c t d)
  task_so n c t d =
      followed SoFar (value_in n) _ (each_value _ (value_in n) (λ id.
      followed SoFar (value_in c) _ (each_value _ (value_in c) (λ run.
      followed SoFar (value_in t) _ (each_value _ (value_in t) (λ period.
      followed SoFar (value_in d) _ (each_value _ (value_in d) (λ deadline.
      asked SoFar (ltb 0 (length so.rows)) (at NoRow (line_in n) 1) _ (λ some.
      asked SoFar (ltb id 32 && not (has id (map (λ k. k.id) so.tasks))) (wrong TaskNumber n) _ (λ free.
      asked SoFar (leb 1 period && leb period 4096) (wrong TaskTimes t) _ (λ within.
      asked SoFar (leb 1 deadline && leb deadline period) (wrong TaskTimes d) _ (λ soon.
      asked SoFar (leb 1 run && leb run deadline) (wrong TaskTimes c) _ (λ short.
      task_more (record { id = id; run = run; period = period; deadline = deadline }) free within soon short)))))))))))))

  line_so : (k : Content) → Of SoFar (with_content so k)
  line_so (row n p m) = row_so n p m
  line_so (task n c t d) = task_so n c t d

-- ---- all lines

on : (r : Result Contents Fault) (next : Contents → Result Contents Fault) → Of SoFar r → ((c : Contents) → SoFar c → Of SoFar (next c)) → Of SoFar (and_then r next)
on (Ok c) next so step = step c so
on (Err f) next so step = tt

lines_so : (line : ℕ) (so : Contents) (lines : List (List ℕ)) → SoFar so → Of SoFar (with_lines line so lines)
lines_so line so [] old = old
lines_so line so (rest ∷ []) old = asked SoFar (eqb (length rest) 0) (at LineNotEnded line 0) _ (λ _. old)
lines_so line so (one ∷ next ∷ others) old =
    asked SoFar (leb (length one) 96) (at LineNotEnded line 0) _ (λ short.
    followed SoFar (content line (parts 44 one)) _ (each_value _ (content line (parts 44 one)) (λ k.
    on (with_content so k) _ (line_so so old k) (λ more kept.
    lines_so (line + 1) more (next ∷ others) kept))))

whole : (text : List ℕ) → Of Lawful (reading text)
unfolding first_from
whole text =
    asked Lawful (leb (length text) 8192) (at TextTooLong 0 0) _ (λ short. go (with_lines 1 empty (parts 10 text)) (lines_so 1 empty (parts 10 text) none))
  where
    none : SoFar empty
    none = record { few = omega arith; marked = tt; cycle = omega arith; cards = tt; once = refl }

    go : (r : Result Contents Fault) → Of SoFar r → Of Lawful (and_then r (λ so. ask (ltb 0 (length so.rows)) (at NoRow 0 0) (Ok so)))
    go (Ok c) so = asked Lawful (ltb 0 (length c.rows)) (at NoRow 0 0) (Ok c) (λ some. record { some = omega (arith, ltb-true 0 (length c.rows) some); few = so.few; marked = so.marked; cycle = so.cycle; cards = so.cards; once = so.once })
    go (Err f) so = tt

pub reading_law : ReadingLaw
reading_law text c e = subst (Of Lawful) e (whole text)
