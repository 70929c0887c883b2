-- Rows with one of them replaced, and sums over the others. Assumes nothing.
use Rattle.std.proofs.Common.{◌≡◌, ℕ, ◌+◌, ◌≤◌, Bool, true, false, cond, eqb, sym, refl, arith}
use Rattle.std.proofs.lemmas.Bool.{eqb-true, eqb-false, eq-eqb, ne_eqb, true≢false}
use Rattle.schedule.specs.Row.{TaskRow}
use Rattle.schedule.specs.State.{put}

module _ (slot : ℕ → TaskRow) (id : ℕ) (r : TaskRow) where
  pub put_same : (i : ℕ) → i ≡ id → put slot id r i ≡ r
  put_same i e = rw (eq-eqb i id e)

  pub put_other : (i : ℕ) → (i ≡ id → ⊥) → put slot id r i ≡ slot i
  put_other i ne = rw (ne_eqb i id ne)

  -- what holds of the new row at its place, and of each other row at its own
  pub put_elim : (P : ℕ → TaskRow → Type 0) → P id r → ((i : ℕ) → (i ≡ id → ⊥) → P i (slot i)) → (i : ℕ) → P i (put slot id r i)
  put_elim P here there i = go (eqb i id) refl
    where
      go : (b : Bool) → eqb i id ≡ b → P i (cond b r (slot i))
      go true e = rw (eqb-true i id e) here
      go false e = there i (eqb-false i id e)

pub one_picked : (c b : Bool) (x y : ℕ) → (b ≡ true → c ≡ true) → (c ≡ true → x + cond b 1 0 ≤ y) → cond c x 0 + cond b 1 0 ≤ cond c y 0
one_picked true b x y t h = h refl
one_picked false true x y t h = absurd (true≢false (sym (t refl)))
one_picked false false x y t h = omega arith

pub picked_le : (c : Bool) (x y : ℕ) → (c ≡ true → x ≤ y) → cond c x 0 ≤ cond c y 0
picked_le true x y h = h refl
picked_le false x y h = omega arith
