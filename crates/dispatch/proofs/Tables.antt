-- The rows of a table, with one of them set. Assumes nothing.
use Rattle.std.proofs.Common.{◌≡◌, ℕ, ◌<◌, ◌≤◌, Bool, true, false, cond, ◌⊎◌, List, length, set, replicate, Some, None, Option, Ok, Err, sym, refl, ap, ◌∙◌, inl, inr, arith, get_or-set_other, get_or-set_same}
use Rattle.std.proofs.lemmas.List.{get_or-replicate, get_or_past}
use Rattle.std.proofs.lemmas.Bool.{cases_lt, eq-eqb, ne_eqb, and_parts, both_ways, true≢false}
use Rattle.std.specs.Option.{option_map, ok_or}
use Rattle.schedule.specs.declared.Refusal.{Refusal}
use Rattle.schedule.specs.Row.{TaskRow}
use Rattle.schedule.specs.Calls.{quiet}
use Rattle.schedule.specs.Order.{unfinished}
use Rattle.schedule.specs.State.{blank, put}
use Rattle.schedule.proofs.Rows.{put_elim}
use Rattle.schedule.proofs.Searches.{least_is, least_below}
use Rattle.dispatch.specs.Rows.{row_said, slots}
use Rattle.dispatch.specs.declared.held_task.HeldTask.{HeldTask}

pub slots_blank : (i : ℕ) → slots (replicate 32 None) i ≡ blank
slots_blank i = go (cases_lt i 32)
  where
    go : (i < 32) ⊎ (32 ≤ i) → slots (replicate 32 None) i ≡ blank
    go (inl h) = ap row_said (get_or-replicate 32 i None None h)
    go (inr h) = ap row_said (get_or_past (replicate 32 None) i None h)

-- the rows of a table with one of its places set
pub slots_set : (rows : List (Option HeldTask)) (id : ℕ) (o : Option HeldTask) → id < length rows → (i : ℕ) → slots (set rows id o) i ≡ put (slots rows) id (row_said o) i
slots_set rows id o below = put_elim (slots rows) id (row_said o) (λ i x. slots (set rows id o) i ≡ x) (ap row_said (get_or-set_same rows id o None below)) (λ i ne. ap row_said (get_or-set_other rows id i o None ne))

-- a search that finds an unfinished job, and one that finds none
module _ (slot : ℕ → TaskRow) where
  pub not_quiet : (i : ℕ) → i < 32 → unfinished (slot i) ≡ true → quiet slot ≡ false
  not_quiet i h u = ne_eqb _ 32 (λ e. both_ways (unfinished (slot i)) (least_below 32 (λ k. unfinished (slot k)) i (omega arith)) u)

  pub is_quiet : ((i : ℕ) → i < 32 → unfinished (slot i) ≡ false) → quiet slot ≡ true
  is_quiet each = eq-eqb _ 32 (least_is 32 (λ k. unfinished (slot k)) 32 (omega arith) (λ h. absurd (omega arith)) each)

-- a number whose row holds a task is below 32
pub held_below : (rows : List (Option HeldTask)) (id : ℕ) → length rows ≡ 32 → (slots rows id).held ≡ true → id < 32
held_below rows id full held = go (cases_lt id 32)
  where
    go : (id < 32) ⊎ (32 ≤ id) → id < 32
    go (inl h) = h
    go (inr h) = absurd (true≢false (sym held ∙ ap (λ o. (row_said o).held) (get_or_past rows id None (omega arith))))

pub unfinished_below : (rows : List (Option HeldTask)) → length rows ≡ 32 → (id : ℕ) → unfinished (slots rows id) ≡ true → id < 32
unfinished_below rows full id u = held_below rows id full (and_parts _ _ u).0

-- what an option that hangs on a test tells of it
pub some_by : {A : Type 0} (b : Bool) (x y : A) → Some x ≡ cond b (Some y) None → (b ≡ true) × (x ≡ y)
some_by true x y e = (refl, cc)
some_by false x y e = absurd cc

pub none_by : {A : Type 0} (b : Bool) (y : A) → None ≡ cond b (Some y) None → b ≡ false
none_by true y e = absurd cc
none_by false y e = refl

-- the same, where the option is turned to a result
module _ {A B : Type 0} (f : A → B) (b : Bool) (y : B) (q : Refusal) where
  pub ok_by : (o : Option A) (x : A) → option_map f o ≡ cond b (Some y) None → Ok x ≡ ok_or o q → (b ≡ true) × (f x ≡ y)
  ok_by None x h e = absurd cc
  ok_by (Some z) x h e = let is : x ≡ z = cc in some_by b (f x) y (ap (λ w. Some (f w)) is ∙ h)

  pub err_by : (o : Option A) (r : Refusal) → option_map f o ≡ cond b (Some y) None → Err r ≡ ok_or o q → (b ≡ false) × (r ≡ q)
  err_by None r h e = (none_by b y h, cc)
  err_by (Some z) r h e = absurd cc
