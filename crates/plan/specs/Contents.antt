-- What a draft and a plan hold, and what a reader of them says. Assumes nothing.
use Rattle.std.specs.Prelude.{Ok, Err, Result}
use Rattle.plan.specs.declared.draft.Draft.{Draft}
use Rattle.plan.specs.declared.plan.Plan.{Plan}
use Rattle.plan.specs.declared.fault.Fault.{Fault}
use Rattle.plan.specs.Lists.{rows_of, tasks_of}
use Rattle.plan.specs.Reading.{Contents}

abbrev pub drafted : Draft → Contents
drafted d = record { rows = rows_of d.table; tasks = tasks_of d.cards }

abbrev pub contents : Plan → Contents
contents p = record { rows = rows_of p.table; tasks = tasks_of p.cards }

-- a result with what was held after it
abbrev pub said : {T X : Type 0} → Result T Fault → X → Result X Fault
said (Ok t) held = Ok held
said (Err f) held = Err f
