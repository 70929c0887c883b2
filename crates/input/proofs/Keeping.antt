-- What is kept in front. Assumes nothing.
use Rattle.std.proofs.Common.{◌≡◌, ℕ, ◌≤◌, List, ◌++◌, length, take, drop, sym, ap, ◌∙◌, arith}
use lib.Seq.{take-append-le}
use Rattle.std.proofs.lemmas.List.{length-take, length-append, take-append-drop}
use Rattle.input.specs.declared.front.Front.{Front}
use Rattle.input.specs.Kept.{kept}

pub few : (f : Front) → length (kept f) ≤ 8193
few f = omega (arith, length-take f.bytes.count f.bytes.items, f.bytes.within)

-- what stands in front stays there when more is kept behind it
pub front_stays : (old now more : List ℕ) → length old ≤ 8193 → take (length old) now ≡ old → take (length old) (take 8193 (now ++ more)) ≡ old
front_stays old now more few front =
    let whole = now ++ more in
    let inside : length old ≤ length now = omega (arith, ap length front, length-take (length old) now) in
    let room : length old ≤ length (take 8193 whole) = omega (arith, length-take 8193 whole, length-append now more) in
    sym (take-append-le (length old) (take 8193 whole) (drop 8193 whole) room)
    ∙ ap (take (length old)) (take-append-drop 8193 whole)
    ∙ take-append-le (length old) now more inside
    ∙ front
