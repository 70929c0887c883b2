use Rattle.std.proofs.Common.{◌-◌, ◌<◌, ◌≤◌, get_or, arith}
use Rattle.dispatch.proofs.Keys.{closed_sorted, closed_holds}
use Rattle.dispatch.proofs.jobs.Jobs.insert.Goals as goal
use Rattle.dispatch.proofs.jobs.Jobs.insert.Goals.{then-loop-at-test+else-self-at, else-loop-at-test}

pub invariant_of-self-2 : goal.invariant_of-self-2
invariant_of-self-2 c =
    let old = c.args.self.now in
    let stop : 0 < c.loop-at.at → c.args.key ≤ get_or c.loop-at.self.keys (c.loop-at.at - 1) 0 = elim c.loop-at-test.branch [
      | then-loop-at-test+else-self-at w ↦ λ _. w.if-self-at.false
      | else-loop-at-test w ↦ λ h. absurd (omega (arith, w.loop-at-test.false))
    ] in
    record { sorted = closed_sorted old.keys c.loop-at.self.keys c.loop-at.at old.count c.args.key c.loop-at.invariant.1 old.sorted c.requires.few c.requires.new stop }

pub returns : goal.returns
returns c =
    let old = c.args.self.now in
    let stop : 0 < c.loop-at.at → c.args.key ≤ get_or c.loop-at.self.keys (c.loop-at.at - 1) 0 = elim c.loop-at-test.branch [
      | then-loop-at-test+else-self-at w ↦ λ _. w.if-self-at.false
      | else-loop-at-test w ↦ λ h. absurd (omega (arith, w.loop-at-test.false))
    ] in
    closed_holds old.keys c.loop-at.self.keys c.loop-at.at old.count c.args.key c.loop-at.invariant.1 old.sorted c.requires.few c.requires.new stop
