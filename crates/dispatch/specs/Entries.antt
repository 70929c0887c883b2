-- Calls and their answers, side by side. Assumes nothing.
use Rattle.std.specs.Prelude.{List, [], ◌∷◌}
use Rattle.schedule.specs.declared.Call.{Call}
use Rattle.schedule.specs.declared.Answer.{Answer}
use Rattle.schedule.specs.Entries.{Entry}

-- each call with its answer, as far as there are both
unfoldable pub entries_of : List Call → List Answer → List Entry
entries_of [] answers = []
entries_of (c ∷ cs) [] = []
entries_of (c ∷ cs) (a ∷ answers) = (c, a) ∷ entries_of cs answers
