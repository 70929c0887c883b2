-- A text and its first line, which ends behind the first byte 10 or with the text. Assumes nothing.
use Rattle.std.proofs.Common.{◌≡◌, ℕ, ◌+◌, ◌-◌, ◌<◌, ◌≤◌, min, true, false, eqb, List, [], ◌∷◌, ◌++◌, length, get_or, take, drop, sym, refl, ap, ◌∙◌, inl, inr, arith}
use Rattle.std.proofs.Math.Bool.{and-true}
use Rattle.std.proofs.lemmas.Bool.{cases_lt, both_ways}
use Rattle.std.proofs.lemmas.Grind.{common_steps}
use Rattle.std.proofs.lemmas.List.{length-append, at_drop_more}
use Rattle.std.proofs.lemmas.List.Sums.{position_or_len_is}
use Rattle.std.specs.List.{IsFirstMatchOrLen}
use Rattle.std.specs.Cmp.Lexicographic.{pointwise}
use Rattle.text.specs.Bytes.{before, parts}
use Rattle.text.proofs.Parts.{parts_cut, parts_uncut}

-- ended is as much of rest as goes to the first byte 10, at i, or to the end
pub record FirstLine (rest ended behind : List ℕ) : Type 0 where
  pub i : ℕ
  pub whole : rest ≡ ended ++ behind
  pub long : length ended ≡ min (i + 1) (length rest)
  pub first : IsFirstMatchOrLen (λ b. eqb b 10) rest i
  pub some : 0 < length rest

module _ (rest ended behind : List ℕ) (line : FirstLine rest ended behind) where
  split : length rest ≡ length ended + length behind
  split = ap length line.whole ∙ length-append ended behind

  pub shorter : length behind < length rest
  shorter = omega (arith, split)

  last : drop (length ended - 1) ended ≡ get_or rest (length ended - 1) 0 ∷ []
  last =
      let inside : length ended - 1 < length ended = omega arith in
      let same : get_or ended (length ended - 1) 0 ≡ get_or rest (length ended - 1) 0 = rw line.whole (grind (arith, common_steps)) in
      at_drop_more (λ l. l) ended (length ended - 1) 0 inside ∙ rw same (grind (arith, common_steps))

  ends : pointwise eqb (drop (length ended - 1) ended) (10 ∷ []) ≡ eqb (get_or rest (length ended - 1) 0) 10
  ends = ap (λ l. pointwise eqb l (10 ∷ [])) last ∙ and-true _

  here : (k : ℕ) → k ≤ line.i → k ≤ length rest → (k < length rest → k ≡ line.i) → before 10 rest ≡ k
  here k low fits at = position_or_len_is (λ b. eqb b 10) rest k 0 fits (λ j l. line.first.0 j 0 (omega arith) (omega arith)) (λ l. ap (λ x. eqb (get_or rest x 0) 10) (at l) ∙ line.first.1 (let same = at l in omega arith) 0)

  pub line_ended : pointwise eqb (drop (length ended - 1) ended) (10 ∷ []) ≡ true → parts 10 rest ≡ take (length ended - 1) ended ∷ parts 10 behind
  line_ended is = elim (cases_lt line.i (length rest)) [
    | inl inside ↦
        let at : before 10 rest ≡ line.i = here line.i (omega arith) (omega arith) (λ l. refl) in
        let size : length ended ≡ line.i + 1 = omega arith in
        let front : take line.i rest ≡ take (length ended - 1) ended = rw (line.whole, size) (grind (arith, common_steps)) in
        let back : drop (line.i + 1) rest ≡ behind = rw line.whole (grind (arith, common_steps)) in
        parts_cut 10 rest (omega arith) ∙ rw (at, front, back) refl
    | inr past ↦ absurd (both_ways _ (line.first.0 (length ended - 1) 0 (omega arith) (omega arith)) (sym ends ∙ is))
  ]

  pub line_unended : pointwise eqb (drop (length ended - 1) ended) (10 ∷ []) ≡ false → parts 10 rest ≡ rest ∷ []
  line_unended not' = elim (cases_lt line.i (length rest)) [
    | inl inside ↦
        let size : length ended - 1 ≡ line.i = omega arith in
        absurd (both_ways _ (sym ends ∙ not') (ap (λ k. eqb (get_or rest k 0) 10) size ∙ line.first.1 inside 0))
    | inr past ↦ parts_uncut 10 rest (omega (arith, here (length rest) past (omega arith) (λ l. absurd (omega arith))))
  ]
