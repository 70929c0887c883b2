use Rattle.std.proofs.Common.{◌≡◌, ◌-◌, ◌≤◌}
use Rattle.dispatch.specs.Rows.{slots}
use Rattle.dispatch.proofs.Keys.{Filtered}
use Rattle.dispatch.proofs.Ticks.{Ran, stays}
use Rattle.dispatch.proofs.jobs.Jobs.run.Given as goal

-- the jobs from place first to place at have run, and of their keys those that stay have moved down; those in front are as they were
abbrev pub invariant-loop-at : goal.invariant-loop-at
invariant-loop-at l =
    Ran (slots l.initial.rows) l.given (l.end - l.at) l.rows l.word
    × Filtered l.initial.self.keys l.self.keys l.place l.at (stays (slots l.initial.rows) l.given)
    × (l.self.count ≡ l.first)
    × (l.first ≤ l.place)
