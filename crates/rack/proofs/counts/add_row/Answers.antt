use Rattle.std.proofs.Common.{◌+◌, length, ◌∙◌, arith}
use native.Mathlib.Nat.{add-mod_right}
use Rattle.plan.specs.Rows.{marks_of}
use Rattle.rack.specs.Slots.{gives}
use Rattle.rack.proofs.Counted.{Added, added_on}
use Rattle.rack.proofs.counts.add_row.Goals as goal

pub add_round-requires-clause-few : goal.add_round-requires-clause-few
add_round-requires-clause-few c = λ x from h. omega (arith, c.loop-start.invariant.0.left x from, c.requires.few x (omega arith))

pub loop-start-preserved : goal.loop-start-preserved
loop-start-preserved c =
    let round : Added c.loop-start.counts c.add_round.new.counts (gives (marks_of c.args.row.now)) c.loop-start.start (c.loop-start.start + c.period-period.result) =
    record { under = c.add_round.ensures.before; done = c.add_round.ensures.counted; left = c.add_round.ensures.behind; long = omega (arith, c.add_round.array_long, c.loop-start.invariant.0.long) } in (
      added_on c.args.counts.now c.loop-start.counts c.add_round.new.counts _ 0 c.loop-start.start (c.loop-start.start + c.period-period.result) (omega arith) (omega arith) c.loop-start.invariant.0 round,
      rw c.period-period.ensures.value (add-mod_right c.loop-start.start (length (marks_of c.args.row.now)) ∙ c.loop-start.invariant.1),
      omega arith,
    )

pub add_round-requires-2-clause-few : goal.add_round-requires-2-clause-few
add_round-requires-2-clause-few c = λ x from h. omega (arith, c.loop-start.invariant.0.left x from, c.requires.few x (omega arith))
