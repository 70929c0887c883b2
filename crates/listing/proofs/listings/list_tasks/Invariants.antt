use Rattle.std.proofs.Common.{◌≡◌, ◌++◌, map, drop}
use Rattle.dispatch.specs.Dispatcher.{state_of}
use Rattle.task.specs.Task.{task_of}
use Rattle.listing.specs.Listing.{task_lines}
use Rattle.listing.specs.Pages.{written, fitting}
use Rattle.listing.proofs.listings.list_tasks.Given as goal

-- what is written and what is still to come are all lines
abbrev pub invariant-loop-card : goal.invariant-loop-card
invariant-loop-card g l =
    fitting (written l.page ++ task_lines (state_of g.S.Supply.row g.S.Supply.table l.dispatcher) (map task_of (drop l.card-index l.cards)))
    ≡ fitting (written l.initial.page ++ task_lines (state_of g.S.Supply.row g.S.Supply.table l.initial.dispatcher) (map task_of l.cards))
