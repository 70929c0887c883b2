-- One bit of a word. Assumes nothing.
use Rattle.std.proofs.Common.{◌≡◌, ℕ, ◌+◌, ◌/◌, ◌%◌, ◌^◌, sym, ap, ◌∙◌, arith}
use native.Mathlib.Nat.{div_self, mod_self}
use lib.Bits.{bit_and, bit_or, and_zero_r}
use Rattle.std.proofs.lemmas.Nat.{pow_pos, shr_split, and_shr, and_mod, and_mask, or_disjoint}
use Rattle.schedule.specs.Order.{names}

-- a word that does not name k has no bit in common with that of k
apart : (w k : ℕ) → names w k ≡ 0 → bit_and w (2 ^ k) ≡ 0
apart w k free =
    let high : bit_and w (2 ^ k) / 2 ^ k ≡ 0 = and_shr w (2 ^ k) k ∙ ap (bit_and (w / 2 ^ k)) (div_self (pow_pos k)) ∙ and_mask (w / 2 ^ k) 1 ∙ free in
    let low : bit_and w (2 ^ k) % 2 ^ k ≡ 0 = and_mod w (2 ^ k) k ∙ ap (bit_and (w % 2 ^ k)) (mod_self (2 ^ k)) ∙ and_zero_r (w % 2 ^ k) in
    sym (shr_split (bit_and w (2 ^ k)) k) ∙ rw (high, low) (omega arith)

-- the bit of k set in a word that does not name it
pub bit_set : (w k : ℕ) → names w k ≡ 0 → bit_or w (2 ^ k) ≡ w + 2 ^ k
bit_set w k free = or_disjoint w (2 ^ k) (apart w k free)
