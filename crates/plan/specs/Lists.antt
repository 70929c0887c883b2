-- What a slot table and a list of cards hold. Assumes nothing.
use Rattle.std.specs.Prelude.{Bool, List, map}
use Rattle.fixed.specs.Listed.{listed}
use Rattle.plan.specs.declared.cards.CardList.{CardList}
use Rattle.plan.specs.declared.table.SlotTable.{SlotTable}
use Rattle.plan.specs.Rows.{marks_of}
use Rattle.task.specs.Task.{Task, task_of}

-- the rows by their marks, in the order of their lines
abbrev pub rows_of : SlotTable → List (List Bool)
rows_of s = map marks_of (listed s.rows)

-- the tasks, in the order of their lines
abbrev pub tasks_of : CardList → List Task
tasks_of l = map task_of (listed l.cards)
