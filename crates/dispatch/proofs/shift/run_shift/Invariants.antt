use Rattle.dispatch.specs.Dispatcher.{state_of}
use Rattle.dispatch.proofs.Shifts.{Carried}
use Rattle.dispatch.proofs.shift.run_shift.Given as goal

abbrev pub invariant-loop-i : goal.invariant-loop-i
invariant-loop-i g l =
    Carried (state_of g.S.Supply.row g.S.Supply.table l.initial.dispatcher) (state_of g.S.Supply.row g.S.Supply.table l.dispatcher) l.calls l.initial.answers l.answers l.i
