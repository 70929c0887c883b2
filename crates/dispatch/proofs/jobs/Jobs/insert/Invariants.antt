use Rattle.std.proofs.Common.{◌≡◌}
use Rattle.dispatch.proofs.Keys.{Opened}
use Rattle.dispatch.proofs.jobs.Jobs.insert.Given as goal

abbrev pub invariant-loop-at : goal.invariant-loop-at
invariant-loop-at l = (l.self.count ≡ 0) × Opened l.initial.self.keys l.self.keys l.at l.count l.key

abbrev pub decreases-loop-at : goal.decreases-loop-at
decreases-loop-at l = l.at
