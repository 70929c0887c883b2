-- Answers as they are written. Assumes nothing.
use Rattle.std.specs.Prelude.{ℕ, List, [], ◌++◌, Some, None, Option, codes, decimal}
use Rattle.schedule.specs.Numbers.{number_of, task_named}
use Rattle.schedule.specs.declared.Answer.{Answer}
use Rattle.schedule.specs.declared.Answer.TheVariants.{Level, Passed, Ticked, Refused}

-- the task that a refusal names, behind a comma
abbrev pub named : Option ℕ → List ℕ
named None = []
named (Some task) = codes "," ++ decimal task

-- what stands in the line of an answer
abbrev pub answer_text : Answer → List ℕ
answer_text (Level level) = codes "level," ++ decimal level
answer_text Passed = codes "passed"
answer_text (Ticked given word) = codes "tick," ++ (decimal given ++ (codes "," ++ decimal word))
answer_text (Refused r) = codes "no," ++ (decimal (number_of r) ++ named (task_named r))
