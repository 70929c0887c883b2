use Rattle.std.proofs.Common.{None, rules}
use Rattle.dispatch.proofs.select.due_times.Goals as goal

pub returns-clause-value : goal.returns-clause-value
returns-clause-value c = λ i h. let w = c.map.ensures.items.at i None 0 h in search rules

pub returns-clause-sooner : goal.returns-clause-sooner
returns-clause-sooner c = λ i h u. let w = c.map.ensures.items.at i None 0 h in search rules
