-- The order of jobs by deadline and number is strict and total, so at most g run and none that is left out goes before one that runs. Assumes nothing.
use Rattle.std.proofs.Common.{◌≡◌, ℕ, ◌^◌, ◌<◌, ◌≤◌, Bool, true, false, cond, ◌&&◌, ◌||◌, eqb, ltb, ◌⊎◌, inl, inr, le_antisymm, arith}
use Rattle.std.proofs.lemmas.Bool.{cases_order, or_cases, or_left, or_right, and_parts, and_from, ltb-true, eqb-true, lt-ltb, eq-eqb}
use Rattle.std.proofs.lemmas.Bool.Decides.{nat_tests}
use Rattle.schedule.specs.Row.{TaskRow}
use Rattle.schedule.specs.Counting.{sum}
use Rattle.schedule.specs.Order.{unfinished, due, ahead, rank, runs, word, names, OrderMeans}
use Rattle.schedule.proofs.Words.{bits_lt, names_at, names_above}
use Rattle.schedule.proofs.Ranks.{StrictOrder, runs_before, g_run, at_most_g}

-- by the first number, and among equals by the second
abbrev lex : ℕ → ℕ → ℕ → ℕ → Bool
lex a i b k = ltb a b || (eqb a b && ltb i k)

lex_tells : (a i b k : ℕ) → lex a i b k ≡ true → (a < b) ⊎ ((a ≡ b) × (i < k))
lex_tells a i b k h = go (or_cases (ltb a b) (eqb a b && ltb i k) h)
  where
    go : (ltb a b ≡ true) ⊎ (eqb a b && ltb i k ≡ true) → (a < b) ⊎ ((a ≡ b) × (i < k))
    go (inl l) = inl (ltb-true a b l)
    go (inr e) = let p = and_parts (eqb a b) (ltb i k) e in inr (eqb-true a b p.0, ltb-true i k p.1)

lex_from : (a i b k : ℕ) → (a < b) ⊎ ((a ≡ b) × (i < k)) → lex a i b k ≡ true
lex_from a i b k (inl l) = or_left (ltb a b) _ (lt-ltb a b l)
lex_from a i b k (inr e) = or_right (ltb a b) _ (and_from (eqb a b) (ltb i k) (eq-eqb a b e.0) (lt-ltb i k e.1))

lex_irreflexive : (a i : ℕ) → lex a i a i ≡ false
lex_irreflexive a i = grind (arith, nat_tests)

lex_transitive : (a i b j c k : ℕ) → lex a i b j ≡ true → lex b j c k ≡ true → lex a i c k ≡ true
lex_transitive a i b j c k p q = grind (arith, nat_tests)

lex_total : (a i b k : ℕ) → (i ≡ k → ⊥) → (lex a i b k ≡ true) ⊎ (lex b k a i ≡ true)
lex_total a i b k ne = go (cases_order a b) (cases_order i k)
  where
    go : (a ≡ b) ⊎ ((a < b) ⊎ (b < a)) → (i ≡ k) ⊎ ((i < k) ⊎ (k < i)) → (lex a i b k ≡ true) ⊎ (lex b k a i ≡ true)
    go (inr (inl l)) o = inl (lex_from a i b k (inl l))
    go (inr (inr l)) o = inr (lex_from b k a i (inl l))
    go (inl e) (inl f) = absurd (ne f)
    go (inl e) (inr (inl l)) = inl (lex_from a i b k (inr (e, l)))
    go (inl e) (inr (inr l)) = inr (lex_from b k a i (inr (omega arith, l)))

pub ahead_order : (slot : ℕ → TaskRow) → StrictOrder (ahead slot)
unfolding ahead
ahead_order slot =
    record {
      irreflexive = λ i. lex_irreflexive (due (slot i)) i;
      transitive = λ i j k. lex_transitive (due (slot i)) i (due (slot j)) j (due (slot k)) k;
      total = λ i k. lex_total (due (slot i)) i (due (slot k)) k;
    }

ahead_due : (slot : ℕ → TaskRow) (i k : ℕ) → ahead slot i k ≡ true → due (slot i) ≤ due (slot k)
unfolding ahead
ahead_due slot i k h = go (lex_tells (due (slot i)) i (due (slot k)) k h)
  where
    go : (due (slot i) < due (slot k)) ⊎ ((due (slot i) ≡ due (slot k)) × (i < k)) → due (slot i) ≤ due (slot k)
    go (inl l) = omega arith
    go (inr e) = omega arith

-- a word names the tasks that run
pub names_runs : (slot : ℕ → TaskRow) (g id : ℕ) → id < 32 → names (word slot g) id ≡ cond (runs slot g id) 1 0
unfolding word
names_runs slot g id below = names_at 32 (runs slot g) id below

pub names_high : (slot : ℕ → TaskRow) (g id : ℕ) → 32 ≤ id → names (word slot g) id ≡ 0
unfolding word
names_high slot g id high = names_above 32 (runs slot g) id high

pub word_fits : (slot : ℕ → TaskRow) (g : ℕ) → word slot g < 2 ^ 32
unfolding word
word_fits slot g = bits_lt 32 (runs slot g)

pub runs_lacks : (slot : ℕ → TaskRow) (g id : ℕ) → runs slot g id ≡ true → 0 < (slot id).lacking
runs_lacks slot g id r = ltb-true 0 (slot id).lacking (and_parts (slot id).held _ (and_parts (unfinished (slot id)) _ r).0).1

module _ (slot : ℕ → TaskRow) (g : ℕ) where
  abbrev waiting : ℕ → Bool
  waiting i = unfinished (slot i)

  runs_first : (i k : ℕ) → i < 32 → k < 32 → runs slot g i ≡ true → unfinished (slot k) ≡ true → runs slot g k ≡ false → ahead slot i k ≡ true
  unfolding rank
  runs_first i k bi bk ri u rk = runs_before 32 waiting (ahead slot) (ahead_order slot) g i k bi bk u ri rk

  -- a job that runs is due no later than one that is left out
  pub runs_sooner : (i k : ℕ) → i < 32 → k < 32 → unfinished (slot k) ≡ true → runs slot g i ≡ true → runs slot g k ≡ false → due (slot i) ≤ due (slot k)
  runs_sooner i k bi bk u ri rk = ahead_due slot i k (runs_first i k bi bk ri u rk)

  -- where an unfinished job is left out, g others run
  pub others_run : (k : ℕ) → k < 32 → unfinished (slot k) ≡ true → runs slot g k ≡ false → g ≤ sum 32 (λ i. cond (runs slot g i) 1 0)
  unfolding rank
  others_run k bk u rk = g_run 32 waiting (ahead slot) (ahead_order slot) g k bk u rk

  pub few_run : sum 32 (λ i. cond (runs slot g i) 1 0) ≤ g
  unfolding rank
  few_run = at_most_g 32 waiting (ahead slot) (ahead_order slot) g

  pub order_means : OrderMeans slot g
  order_means =
      record {
        few = few_run;
        full = λ k below u out. le_antisymm few_run (others_run k below u out);
        first = runs_first;
        named = names_runs slot g;
      }
