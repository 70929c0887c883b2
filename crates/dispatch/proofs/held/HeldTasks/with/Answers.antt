use Rattle.std.proofs.Common.{◌≡◌, ℕ, ◌+◌, get_or, sym, refl, ap, ◌∙◌, arith, length-set, get_or-set_other}
use Rattle.task.specs.Task.{task_of}
use Rattle.schedule.specs.Test.{charge, load}
use Rattle.schedule.proofs.Sums.{sum_none, sum_more}
use Rattle.dispatch.specs.Rows.{slots, row_of}
use Rattle.dispatch.proofs.Loads.{load_few, placed, passed_by, other_adds, none_adds, with_own}
use Rattle.dispatch.proofs.Tables.{some_by, none_by}
use Rattle.dispatch.proofs.held.HeldTasks.with.Goals as goal
use Rattle.dispatch.proofs.held.HeldTasks.with.Goals.{in-Some, in_default}

pub loop-k-init : goal.loop-k-init
loop-k-init c = (c.args.self.now.full, λ i h. absurd (omega arith), λ i _. refl, sym (sum_none _), omega arith)

pub overflow_add-loads : goal.overflow_add-loads
overflow_add-loads c =
    let old = c.args.self.now in
    let slot = slots old.table.rows in
    let k = c.loop-k.k in
    let is = some_by (slot k).held _ _ c.in-Some.ensures in
    omega (arith, c.loop-k.invariant.2 k (omega arith), old.loaded k c.loop-k-test.true is.0, load_few slot old.table.times k is.0, c.charge.ensures.few)

pub loop-k-preserved : goal.loop-k-preserved
loop-k-preserved c =
    let old = c.args.self.now in
    let slot = slots old.table.rows in
    let new = task_of c.args.card.now in
    let k = c.loop-k.k in
    let inv = c.loop-k.invariant in
    let want : ℕ → ℕ = λ i. load slot i + charge (slot i).deadline (row_of new) in
    elim c.match-card.branch [
      | in-Some w ↦
          let is = some_by (slot k).held _ _ w.in-Some.ensures in
          let added : w.charge.result ≡ charge (slot k).deadline (row_of new) = w.charge.ensures.value ∙ ap (λ t. charge t.deadline (row_of new)) is.1 in
          let here : get_or c.loop-k.loads k 0 + w.charge.result ≡ want k = omega (arith, inv.2 k (omega arith), old.loaded k c.loop-k-test.true is.0, added) in
          let own = other_adds slot new.id new.deadline k _ (task_of w.in-Some.other) c.requires is.0 is.1 w.charge-own.ensures.value in
          rw (w.loads-is, w.own-is) (
            simp length-set inv.0,
            placed slot c.loop-k.loads k inv.0 c.loop-k-test.true want inv.1 _ here,
            λ i past. get_or-set_other c.loop-k.loads k i _ 0 (λ e. omega arith) ∙ inv.2 i (omega arith),
            rw sum_more (omega (arith, inv.3, own)),
            omega (arith, inv.4, w.charge-own.ensures.few),
          )
      | in_default w ↦
          let free = none_by (slot k).held _ w.in_default.ensures in
          rw (w.loads-is, w.own-is) (
            inv.0,
            passed_by slot c.loop-k.loads k inv.0 c.loop-k-test.true want inv.1 free,
            λ i past. inv.2 i (omega arith),
            rw sum_more (omega (arith, inv.3, none_adds slot new.id new.deadline k free)),
            omega (arith, inv.4),
          )
    ]

pub invariant_of-result : goal.invariant_of-result
invariant_of-result c =
    let old = c.args.self.now in
    let slot = slots old.table.rows in
    let new = task_of c.args.card.now in
    let inv = c.loop-k.invariant in
    let all : c.loop-k.k ≡ 32 = omega arith in
    let whole = simp all at inv.3 in
    let loaded = with_own slot new.id c.loop-k.own (row_of new) c.loop-k.loads inv.0 c.args.card.now.numbered c.requires refl whole (λ i less held. inv.1 i (omega arith) held) in
    record {
      full = simp length-set inv.0;
      loaded = λ k less held. rw c.id.ensures (loaded k less (ap (λ f. (f k).held) (sym c.with.ensures) ∙ held) ∙ ap (λ f. load f k) (sym c.with.ensures));
    }
