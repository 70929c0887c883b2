-- Running sums over a cycle. Assumes nothing.
use Rattle.std.proofs.Common.{◌≡◌, ℕ, suc, ◌+◌, ◌*◌, ◌<◌, ◌≤◌, min, ◌≢◌, List, length, get_or, set, sym, ap, subst, mod-eq_of_lt, zero-add, add-one, arith, get_or-set_other, get_or-set_same, below_more}
use native.Mathlib.Decide.{dec_le}
use Rattle.supply.specs.Window.{window}
use Rattle.supply.specs.Windows.{window_cap}
use Rattle.rack.specs.CycleLemmas.{window_none}
use Rattle.rack.specs.Cycle.{repeated}
use Rattle.rack.specs.Sums.{Summed, sums_at}
use Rattle.rack.specs.declared.running.LevelSums.{LevelSums}

-- what the first cycle of a repeated row holds
pub repeated_first : (given : List ℕ) (h k : ℕ) → k < h → repeated given h k ≡ min (get_or given k 0) 8
repeated_first given h k lt = ap (λ y. min (get_or given y 0) 8) (mod-eq_of_lt lt)

-- no sum over up to 512 ticks passes 4,096
pub window_small : (j : ℕ) (row : ℕ → ℕ) (x n : ℕ) → j ≤ 8 → window j row x n ≤ 8 * n
window_small j row x n le = window_cap j 8 row x n (λ y. omega arith)

window_push : (j : ℕ) (row : ℕ → ℕ) (k : ℕ) → window j row 0 (suc k) ≡ window j row 0 k + min j (row k)
unfolding window
window_push j row k = ap (λ y. window j row 0 k + min j (row y)) (zero-add k)

pub summed_none : (j : ℕ) (row : ℕ → ℕ) (sums : List ℕ) → get_or sums 0 0 ≡ 0 → Summed j row 0 sums
summed_none j row sums e i le =
    let here : i ≡ 0 = omega arith in
    rw here (omega (arith, window_none j row 0))

-- one more tick is added up
pub summed_more : (j h : ℕ) (given sums : List ℕ) (k v : ℕ) → j ≤ 8 → k < h → k + 1 < length sums → Summed j (repeated given h) k sums → v ≡ get_or sums k 0 + min (get_or given k 0) j → Summed j (repeated given h) (k + 1) (set sums (k + 1) v)
summed_more j h given sums k v small lt room below e i le = elim (dec_le i k) [
  | yes old ↦ let ne : i ≢ k + 1 = omega arith in rw get_or-set_other (below i old)
  | no new ↦
      let here : i ≡ k + 1 = omega arith in
      rw (here, get_or-set_same)
      (omega (arith, ap (window j (repeated given h) 0) (add-one k), below k (omega arith), window_push j (repeated given h) k, repeated_first given h k lt))
]

-- one more level has its sums
pub levels_more : (row : ℕ → ℕ) (h : ℕ) (levels : List LevelSums) (j : ℕ) (r : LevelSums) → j < length levels → ((i : ℕ) → i < j → Summed (suc i) row h (sums_at levels i)) → Summed (j + 1) row h r.sums → (i : ℕ) → i < j + 1 → Summed (suc i) row h (sums_at (set levels j r) i)
levels_more row h levels j r room below here =
    below_more (λ i. Summed (suc i) row h (sums_at (set levels j r) i)) j
    (λ i lt. let P : LevelSums → Type 0 = λ v. Summed (suc i) row h v.sums in subst P (sym (get_or-set_other levels j i r _ (omega arith))) (below i lt))
    (let P : LevelSums → Type 0 = λ v. Summed (suc j) row h v.sums in subst P (sym (get_or-set_same levels j r _ room)) (rw add-one at here))
