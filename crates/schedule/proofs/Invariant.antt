-- What every call keeps, and why no job is late. Assumes nothing.
use Rattle.std.proofs.Common.{◌≡◌, ℕ, suc, ◌+◌, ◌-◌, ◌*◌, ◌<◌, ◌≤◌, min, Bool, true, false, cond, not, ◌&&◌, eqb, leb, ◌⊎◌, sym, refl, ap, ◌∙◌, inl, inr, le_of_eq, le_refl, mul-le-mul_left, mul-one, mul-add, arith}
use mathlib.Core.Path.{fun_ext}
use native.Mathlib.Nat.{sub-zero}
use Rattle.std.proofs.lemmas.Bool.{cases_lt, cases_eq, eqb-true, ne_eqb, lt-ltb, ltb-true, and_parts, and_from, leb-true, both_ways, true≢false}
use Rattle.task.specs.Task.{timely}
use Rattle.supply.specs.Window.{window, Windows}
use Rattle.schedule.specs.Row.{TaskRow}
use Rattle.schedule.specs.Counting.{sum, least}
use Rattle.schedule.specs.State.{State, blank, fresh, put}
use Rattle.schedule.specs.Test.{charge, others, load, serves, witness, passes, LeastLevel}
use Rattle.schedule.specs.Order.{unfinished, released_at, due, runs, spent}
use Rattle.schedule.specs.declared.Call.TheVariants.{Admit, Withdraw, Release, Tick}
use Rattle.schedule.specs.Calls.{admitted, released, quiet, changed}
use Rattle.schedule.proofs.Sums.{sum_le, sum_two, sum_zero}
use Rattle.schedule.proofs.Searches.{least_below}
use Rattle.schedule.proofs.Levels.{serving_covers, serves_kept, some_serves, all_served}
use Rattle.schedule.proofs.Rest.{rest, earliest, RowSound, rest_tick, rest_falls, rest_released, charge_card, charge_covers}
use Rattle.schedule.proofs.Jobs.{runs_sooner, others_run}
use Rattle.schedule.proofs.Rows.{put_elim, put_same, put_other, picked_le, one_picked}

-- For an unfinished job of k, and j processors at once: what the supply gave since the release, j times the ticks that the job
-- still lacks, and what the others can still run ahead of it, are no more than j times the card's run time and the load.
-- r is the row of k.
abbrev pub BoundOf : (ℕ → ℕ) → ℕ → (ℕ → TaskRow) → ℕ → TaskRow → Type 0
BoundOf row y slot k r =
    (j : ℕ) → window j row (released_at r) (y - released_at r) + j * r.lacking + sum 32 (others slot k (rest y (due r))) ≤ j * r.run + sum 32 (others slot k (charge r.deadline))

abbrev pub Bound : (ℕ → ℕ) → ℕ → (ℕ → TaskRow) → ℕ → Type 0
Bound row y slot k = BoundOf row y slot k (slot k)

-- row is the row of the supply at the making
pub record Kept (row : ℕ → ℕ) (s : State) : Type 0 where
  pub rows : (x : ℕ) → s.row x ≡ row (s.clock + x)
  pub windows : Windows row s.table
  pub each : (i : ℕ) → i < 32 → RowSound s.clock (s.slot i)
  pub levels : (k : ℕ) → k < 32 → (s.slot k).held ≡ true → LeastLevel s.table s.slot k (witness s.table s.slot k)
  pub bound : (k : ℕ) → k < 32 → 0 < (s.slot k).lacking → Bound row s.clock s.slot k

window_step : (j : ℕ) (row : ℕ → ℕ) (a n : ℕ) → window j row a (suc n) ≡ window j row a n + min j (row (a + n))
unfolding window
window_step j row a n = refl

window_none : (j : ℕ) (row : ℕ → ℕ) (a : ℕ) → window j row a 0 ≡ 0
unfolding window
window_none j row a = refl

-- the window from a up to the clock grows by one tick
window_more : (j : ℕ) (row : ℕ → ℕ) (a y : ℕ) → a ≤ y → window j row a (y + 1 - a) ≡ window j row a (y - a) + min j (row y)
window_more j row a y h =
    let one : y + 1 - a ≡ suc (y - a) = omega arith in
    let last : a + (y - a) ≡ y = omega arith in
    ap (window j row a) one ∙ window_step j row a (y - a) ∙ ap (λ x. window j row a (y - a) + min j (row x)) last

times_pred : (j n : ℕ) → 1 ≤ n → j * n ≡ j * (n - 1) + j
times_pred j n h =
    let one : n ≡ n - 1 + 1 = omega arith in
    ap (λ x. j * x) one ∙ mul-add j (n - 1) 1 ∙ ap (λ x. j * (n - 1) + x) (mul-one j)

-- with the deadline reached and a tick still lacking, the bound would fail at a level that serves
on_time : (row : ℕ → ℕ) (table : ℕ → ℕ → ℕ) (slot : ℕ → TaskRow) (y k j : ℕ) → Windows row table → 1 ≤ j → j ≤ 8 → serves table slot k j ≡ true → 1 ≤ (slot k).run → (slot k).deadline ≤ 4096 → y < due (slot k) → Bound row (y + 1) slot k → 0 < (slot k).lacking → y + 1 < due (slot k)
on_time row table slot y k j windows one eight serving run short early bound lacks = go (cases_lt (y + 1) (due (slot k)))
  where
    go : (y + 1 < due (slot k)) ⊎ (due (slot k) ≤ y + 1) → y + 1 < due (slot k)
    go (inl h) = h
    go (inr h) =
        let reached : y + 1 - released_at (slot k) ≡ (slot k).deadline = omega arith in
        absurd
        (omega (
          arith,
          bound j,
          ap (window j row (released_at (slot k))) reached,
          windows j (slot k).deadline (released_at (slot k)) eight (omega arith),
          serving_covers table slot k j one run serving,
          times_pred j (slot k).run run,
          times_pred j (slot k).lacking lacks,
        ))

module _ (row : ℕ → ℕ) (s : State) (kept : Kept row s) where
  abbrev runner : ℕ → Bool
  runner i = runs s.slot (s.row 0) i

  abbrev behind_tick : ℕ → TaskRow
  behind_tick i = spent (runner i) (s.slot i)

  unfinished_row : (k : ℕ) → k < 32 → 0 < (s.slot k).lacking → unfinished (s.slot k) ≡ true
  unfinished_row k below lacks = and_from (s.slot k).held _ ((kept.each k below).job lacks).0 (lt-ltb 0 (s.slot k).lacking lacks)

  given : s.row 0 ≡ row s.clock
  given = kept.rows 0 ∙ ap row (omega arith)

  -- a tick that leaves the job of k out takes all its processors from what the others can still run ahead of it
  tick_out : (k : ℕ) → k < 32 → 0 < (s.slot k).lacking → runner k ≡ false → sum 32 (others behind_tick k (rest (s.clock + 1) (due (s.slot k)))) + s.row 0 ≤ sum 32 (others s.slot k (rest s.clock (due (s.slot k))))
  tick_out k below lacks out =
      omega (
        arith,
        others_run s.slot (s.row 0) k below (unfinished_row k below lacks) out,
        sum_zero 32,
        sum_two 32 (others behind_tick k (rest (s.clock + 1) (due (s.slot k)))) (λ i. cond (runner i) 1 0) (others s.slot k (rest s.clock (due (s.slot k)))) (λ _. 0) (λ i h. omega (arith, term i h)),
      )
    where
      apart : (i : ℕ) → runner i ≡ true → i ≡ k → ⊥
      apart i r e = true≢false (sym r ∙ ap runner e ∙ out)

      term : (i : ℕ) → i < 32 → others behind_tick k (rest (s.clock + 1) (due (s.slot k))) i + cond (runner i) 1 0 ≤ others s.slot k (rest s.clock (due (s.slot k))) i
      term i h =
          one_picked ((s.slot i).held && not (eqb i k)) (runner i) (rest (s.clock + 1) (due (s.slot k)) (behind_tick i)) (rest s.clock (due (s.slot k)) (s.slot i))
          (λ r. and_from (s.slot i).held (not (eqb i k)) (and_parts (s.slot i).held _ (and_parts (unfinished (s.slot i)) _ r).0).0 (ap not (ne_eqb i k (apart i r))))
          (λ _. rest_tick (runner i) s.clock (due (s.slot k)) (s.slot i)
          (λ r.
          let lacking : 0 < (s.slot i).lacking = ltb-true 0 (s.slot i).lacking (and_parts (s.slot i).held _ (and_parts (unfinished (s.slot i)) _ r).0).1 in
          (runs_sooner s.slot (s.row 0) i k h below (unfinished_row k below lacks) r out, lacking, ((kept.each i h).job lacking).2)))

  -- no tick adds to what they can
  tick_in : (k : ℕ) → sum 32 (others behind_tick k (rest (s.clock + 1) (due (s.slot k)))) ≤ sum 32 (others s.slot k (rest s.clock (due (s.slot k))))
  tick_in k = sum_le 32 _ _ (λ i _. picked_le ((s.slot i).held && not (eqb i k)) _ _ (λ _. rest_falls (runner i) s.clock (due (s.slot k)) (s.slot i)))

  tick_load : (k n : ℕ) → sum 32 (others behind_tick k (charge n)) ≡ sum 32 (others s.slot k (charge n))
  tick_load k n = ap (sum 32) (fun_ext (λ i. ap (λ x. cond ((s.slot i).held && not (eqb i k)) x 0) (charge_card n (s.slot i) _ _)))

  -- where the job of k ran, the window grew by no more than j, and j times one tick is lacking less
  tick_bound : (k : ℕ) → k < 32 → 0 < (behind_tick k).lacking → Bound row (s.clock + 1) behind_tick k
  tick_bound k below lacks j = go (runner k) refl
    where
      before : 0 < (s.slot k).lacking
      before = omega arith

      old : window j row (released_at (s.slot k)) (s.clock - released_at (s.slot k)) + j * (s.slot k).lacking + sum 32 (others s.slot k (rest s.clock (due (s.slot k)))) ≤ j * (s.slot k).run + load s.slot k
      old = kept.bound k below before j

      grown : window j row (released_at (s.slot k)) (s.clock + 1 - released_at (s.slot k)) ≡ window j row (released_at (s.slot k)) (s.clock - released_at (s.slot k)) + min j (row s.clock)
      grown = window_more j row (released_at (s.slot k)) s.clock (kept.each k below).past

      go : (b : Bool) → runner k ≡ b → window j row (released_at (s.slot k)) (s.clock + 1 - released_at (s.slot k)) + j * ((s.slot k).lacking - cond (runner k) 1 0) + sum 32 (others behind_tick k (rest (s.clock + 1) (due (s.slot k)))) ≤ j * (s.slot k).run + sum 32 (others behind_tick k (charge (s.slot k).deadline))
      go true e = rw e (omega (arith, old, grown, tick_in k, tick_load k (s.slot k).deadline, times_pred j (s.slot k).lacking before))
      go false e = rw (e, sub-zero (s.slot k).lacking) (omega (arith, old, grown, given, tick_load k (s.slot k).deadline, tick_out k below before e))

  tick_levels : (k : ℕ) → k < 32 → (s.slot k).held ≡ true → LeastLevel s.table behind_tick k (witness s.table behind_tick k)
  tick_levels k below held =
      let old = kept.levels k below held in
      some_serves s.table behind_tick k _ old.0 old.1 (serves_kept s.table s.slot behind_tick k _ refl refl (le_of_eq (tick_load k _)) old.2)

  tick_row : (i : ℕ) → i < 32 → RowSound (s.clock + 1) (behind_tick i)
  tick_row i below =
      record {
        card = sound.card;
        at_most = omega (arith, sound.at_most);
        past = omega (arith, sound.past);
        job =
            λ lacks.
            let before : 0 < (s.slot i).lacking = omega arith in
            let old = sound.job before in
            let nums = sound.card old.0 in
            let level = tick_levels i below old.0 in
            (old.0, old.1, on_time row s.table behind_tick s.clock i _ kept.windows level.0 level.1 level.2 nums.0 (omega (arith, nums)) old.2 (tick_bound i below lacks) lacks);
      }
    where
      sound : RowSound s.clock (s.slot i)
      sound = kept.each i below

  pub tick_kept : Kept row (changed s Tick)
  tick_kept =
      record {
        rows = λ x. kept.rows (suc x) ∙ ap row (omega arith);
        windows = kept.windows;
        each = tick_row;
        levels = tick_levels;
        bound = tick_bound;
      }

module _ (row : ℕ → ℕ) (s : State) (kept : Kept row s) (id run : ℕ) (below : id < 32) (held : (s.slot id).held ≡ true) (one : 1 ≤ run) (most : run ≤ (s.slot id).run) (ready-now : earliest s.clock (s.slot id).period (s.slot id).latest ≡ s.clock) where
  abbrev job_row : TaskRow
  job_row = released s.clock run (s.slot id)

  abbrev behind_release : ℕ → TaskRow
  behind_release = put s.slot id job_row

  -- the card stays
  same_field : {X : Type 0} (f : TaskRow → X) → f job_row ≡ f (s.slot id) → (k : ℕ) → f (behind_release k) ≡ f (s.slot k)
  same_field f e = put_elim s.slot id job_row (λ k r. f r ≡ f (s.slot k)) e (λ _ _. refl)

  same_load : (k n : ℕ) → sum 32 (others behind_release k (charge n)) ≡ sum 32 (others s.slot k (charge n))
  same_load k n = ap (sum 32) (fun_ext (put_elim s.slot id job_row (λ i r. cond (r.held && not (eqb i k)) (charge n r) 0 ≡ others s.slot k (charge n) i) (ap (λ x. cond ((s.slot id).held && not (eqb id k)) x 0) (charge_card n (s.slot id) _ _)) (λ _ _. refl)))

  release_levels : (k : ℕ) → k < 32 → (behind_release k).held ≡ true → LeastLevel s.table behind_release k (witness s.table behind_release k)
  release_levels k bk h =
      let old = kept.levels k bk (sym (same_field (λ r. r.held) refl k) ∙ h) in
      some_serves s.table behind_release k _ old.0 old.1 (serves_kept s.table s.slot behind_release k _ (same_field (λ r. r.run) refl k) (same_field (λ r. r.deadline) refl k) (le_of_eq (same_load k _)) old.2)

  release_row : RowSound s.clock job_row
  release_row =
      let nums = (kept.each id below).card held in
      record {
        card = (kept.each id below).card;
        at_most = most;
        past = le_refl _;
        job = λ _. (held, refl, omega (arith, nums));
      }

  release_each : (i : ℕ) → i < 32 → RowSound s.clock (behind_release i)
  release_each = put_elim s.slot id job_row (λ i r. i < 32 → RowSound s.clock r) (λ _. release_row) (λ i _. kept.each i)

  -- at its release a job has the bound, since each charge covers what its task can run ahead of it
  own_bound : BoundOf row s.clock behind_release id job_row
  own_bound j =
      let none : s.clock - s.clock ≡ 0 = omega arith in
      omega (
        arith,
        ap (window j row s.clock) none ∙ window_none j row s.clock,
        mul-le-mul_left j most,
        sum_le 32 (others behind_release id (rest s.clock (due job_row))) (others behind_release id (charge (s.slot id).deadline))
            (λ i h. picked_le ((behind_release i).held && not (eqb i id)) _ _ (λ e. charge_covers s.clock (due job_row) (s.slot id).deadline (behind_release i) (release_each i h) (and_parts (behind_release i).held _ e).0 (le_refl _))),
      )

  -- the release of another's job takes from the releases that still fit
  other_bound : (k : ℕ) → k < 32 → 0 < (s.slot k).lacking → BoundOf row s.clock behind_release k (s.slot k)
  other_bound k bk lacks j =
      let nums = (kept.each id below).card held in
      omega (
        arith,
        kept.bound k bk lacks j,
        same_load k (s.slot k).deadline,
        sum_le 32 (others behind_release k (rest s.clock (due (s.slot k)))) (others s.slot k (rest s.clock (due (s.slot k))))
            (λ i _. put_elim s.slot id job_row (λ i r. cond (r.held && not (eqb i k)) (rest s.clock (due (s.slot k)) r) 0 ≤ others s.slot k (rest s.clock (due (s.slot k))) i)
            (picked_le ((s.slot id).held && not (eqb id k)) _ _ (λ _. rest_released s.clock (due (s.slot k)) run (s.slot id) (omega (arith, nums)) most ready-now))
            (λ _ _. le_refl _)
            i),
      )

  pub release_kept : Kept row (changed s (Release id run))
  release_kept =
      record {
        rows = kept.rows;
        windows = kept.windows;
        each = release_each;
        levels = release_levels;
        bound = put_elim s.slot id job_row (λ k r. k < 32 → 0 < r.lacking → BoundOf row s.clock behind_release k r) (λ _ _. own_bound) (λ k _. other_bound k);
      }

module _ (row : ℕ → ℕ) (s : State) (kept : Kept row s) (id run period deadline : ℕ) (below : id < 32) (good : timely run period deadline ≡ true) (free : (s.slot id).held ≡ false) (pass : passes s.table (put s.slot id (admitted run period deadline)) ≡ true) where
  abbrev new_row : TaskRow
  new_row = admitted run period deadline

  abbrev behind_admit : ℕ → TaskRow
  behind_admit = put s.slot id new_row

  good_card : (1 ≤ run) × (run ≤ deadline) × (deadline ≤ period) × (period ≤ 4096)
  good_card =
      let p = and_parts (leb 1 run) _ good in
      let q = and_parts (leb run deadline) _ p.1 in
      let r = and_parts (leb deadline period) _ q.1 in
      (leb-true _ _ p.0, leb-true _ _ q.0, leb-true _ _ r.0, leb-true _ _ r.1)

  new_sound : RowSound s.clock new_row
  new_sound = record { card = λ _. good_card; at_most = omega arith; past = omega arith; job = λ lacks. absurd (omega arith) }

  admit_each : (i : ℕ) → i < 32 → RowSound s.clock (behind_admit i)
  admit_each = put_elim s.slot id new_row (λ i r. i < 32 → RowSound s.clock r) (λ _. new_sound) (λ i _. kept.each i)

  -- what the new task can run ahead of a job is covered by its charge
  grows : (k : ℕ) → k < 32 → (i : ℕ) → others behind_admit k (rest s.clock (due (s.slot k))) i + others s.slot k (charge (s.slot k).deadline) i ≤ others s.slot k (rest s.clock (due (s.slot k))) i + others behind_admit k (charge (s.slot k).deadline) i
  grows k bk =
      put_elim s.slot id new_row
      (λ i r. cond (r.held && not (eqb i k)) (rest s.clock (due (s.slot k)) r) 0 + others s.slot k (charge (s.slot k).deadline) i ≤ others s.slot k (rest s.clock (due (s.slot k))) i + cond (r.held && not (eqb i k)) (charge (s.slot k).deadline r) 0)
      (rw free (omega (arith, picked_le (not (eqb id k)) _ _ (λ _. charge_covers s.clock (due (s.slot k)) (s.slot k).deadline new_row new_sound refl (omega (arith, (kept.each k bk).past))))))
      (λ _ _. omega arith)

  admit_bound : (k : ℕ) → k < 32 → 0 < (s.slot k).lacking → BoundOf row s.clock behind_admit k (s.slot k)
  admit_bound k bk lacks j =
      omega (
        arith,
        kept.bound k bk lacks j,
        sum_two 32 (others behind_admit k (rest s.clock (due (s.slot k)))) (others s.slot k (charge (s.slot k).deadline)) (others s.slot k (rest s.clock (due (s.slot k)))) (others behind_admit k (charge (s.slot k).deadline)) (λ i _. grows k bk i),
      )

  pub admit_kept : Kept row (changed s (Admit id run period deadline))
  admit_kept =
      record {
        rows = kept.rows;
        windows = kept.windows;
        each = admit_each;
        levels = all_served s.table behind_admit pass;
        bound = put_elim s.slot id new_row (λ k r. k < 32 → 0 < r.lacking → BoundOf row s.clock behind_admit k r) (λ _ lacks. absurd (omega arith)) (λ k _. admit_bound k);
      }

-- where no job is unfinished, no row lacks a tick
pub quiet_lacks : (row : ℕ → ℕ) (s : State) → Kept row s → quiet s.slot ≡ true → (i : ℕ) → i < 32 → 0 < (s.slot i).lacking → ⊥
quiet_lacks row s kept q i below lacks =
    both_ways (unfinished (s.slot i)) (least_below 32 (λ k. unfinished (s.slot k)) i (omega (arith, eqb-true (least 32 (λ k. unfinished (s.slot k))) 32 q))) (unfinished_row row s kept i below lacks)

module _ (row : ℕ → ℕ) (s : State) (kept : Kept row s) (id : ℕ) (q : quiet s.slot ≡ true) where
  abbrev behind_withdraw : ℕ → TaskRow
  behind_withdraw = put s.slot id blank

  blank_sound : RowSound s.clock blank
  blank_sound = record { card = λ e. absurd (true≢false (sym e)); at_most = omega arith; past = omega arith; job = λ lacks. absurd (omega arith) }

  less_load : (k n : ℕ) → sum 32 (others behind_withdraw k (charge n)) ≤ sum 32 (others s.slot k (charge n))
  less_load k n = sum_le 32 _ _ (λ i _. put_elim s.slot id blank (λ i r. cond (r.held && not (eqb i k)) (charge n r) 0 ≤ others s.slot k (charge n) i) (omega arith) (λ _ _. le_refl _) i)

  withdraw_levels : (k : ℕ) → k < 32 → (behind_withdraw k).held ≡ true → LeastLevel s.table behind_withdraw k (witness s.table behind_withdraw k)
  withdraw_levels k below held = go (cases_eq k id)
    where
      go : (k ≡ id) ⊎ (k ≡ id → ⊥) → LeastLevel s.table behind_withdraw k (witness s.table behind_withdraw k)
      go (inl e) = absurd (true≢false (sym held ∙ ap (λ r. r.held) (put_same s.slot id blank k e)))
      go (inr ne) =
          let same : behind_withdraw k ≡ s.slot k = put_other s.slot id blank k ne in
          let old = kept.levels k below (sym (ap (λ r. r.held) same) ∙ held) in
          some_serves s.table behind_withdraw k _ old.0 old.1 (serves_kept s.table s.slot behind_withdraw k _ (ap (λ r. r.run) same) (ap (λ r. r.deadline) same) (less_load k _) old.2)

  pub withdraw_kept : Kept row (changed s (Withdraw id))
  withdraw_kept =
      record {
        rows = kept.rows;
        windows = kept.windows;
        each = put_elim s.slot id blank (λ i r. i < 32 → RowSound s.clock r) (λ _. blank_sound) (λ i _. kept.each i);
        levels = withdraw_levels;
        bound = put_elim s.slot id blank (λ k r. k < 32 → 0 < r.lacking → BoundOf row s.clock behind_withdraw k r) (λ _ lacks. absurd (omega arith)) (λ k _ below lacks. absurd (quiet_lacks row s kept q k below lacks));
      }

pub fresh_kept : (row : ℕ → ℕ) (table : ℕ → ℕ → ℕ) → Windows row table → Kept row (fresh row table)
fresh_kept row table windows =
    record {
      rows = λ x. ap row (omega arith);
      windows = windows;
      each = λ i _. record { card = λ e. absurd (true≢false (sym e)); at_most = omega arith; past = omega arith; job = λ lacks. absurd (omega arith) };
      levels = λ k _ e. absurd (true≢false (sym e));
      bound = λ k _ lacks. absurd (omega arith);
    }
