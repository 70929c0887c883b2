use Rattle.std.proofs.Common.{◌≡◌, ℕ, ◌+◌, ◌*◌, ◌<◌, ◌≤◌, true, length, get_or}
use Rattle.task.specs.Task.{task_of}
use Rattle.schedule.specs.Counting.{sum}
use Rattle.schedule.specs.Test.{charge, others, load}
use Rattle.dispatch.specs.Rows.{slots, row_of}
use Rattle.dispatch.proofs.held.HeldTasks.with.Given as goal

-- the loads below k have the new charge, those from k on are as they were, and the new task's own load is counted so far
abbrev pub invariant-loop-k : goal.invariant-loop-k
invariant-loop-k l =
    (length l.loads ≡ 32)
    × ((i : ℕ) → i < l.k → (slots l.self.table.rows i).held ≡ true → get_or l.loads i 0 ≡ load (slots l.self.table.rows) i + charge (slots l.self.table.rows i).deadline (row_of (task_of l.card)))
    × ((i : ℕ) → l.k ≤ i → get_or l.loads i 0 ≡ get_or l.self.loads i 0)
    × (l.own ≡ sum l.k (others (slots l.self.table.rows) (task_of l.card).id (charge (task_of l.card).deadline)))
    × (l.own ≤ 8192 * l.k)
