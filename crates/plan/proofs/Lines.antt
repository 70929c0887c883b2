-- A line by its first bytes. Assumes nothing.
use Rattle.std.proofs.Common.{◌≡◌, ℕ, ◌≤◌, Bool, true, false, cond, ◌||◌, eqb, List, [], ◌∷◌, length, get_or, drop, Err, Result, sym, refl, ap, ◌∙◌, inl, inr, arith}
use Rattle.std.proofs.lemmas.Bool.{eqb-true, eq-eqb, ne_eqb, cases_Bool, and_left}
use Rattle.text.specs.Bytes.{parts, onto}
use Rattle.text.proofs.Parts.{parts_some}
use Rattle.plan.specs.declared.fault.Cause.TheVariants.{UnknownLine, FieldCount}
use Rattle.plan.specs.declared.fault.Fault.{Fault}
use Rattle.plan.specs.Parts.{Content}
use Rattle.plan.specs.Reading.{ask, at, content, letter}
use Rattle.plan.specs.Fields.{lone_letter}

-- a letter and a comma in front: the first field is that letter
pub lettered : (l : ℕ) (bytes : List ℕ) → 2 ≤ length bytes → get_or bytes 0 0 ≡ l → eqb l 44 ≡ false → get_or bytes 1 0 ≡ 44 → parts 44 bytes ≡ (l ∷ []) ∷ parts 44 (drop 2 bytes)
unfolding parts
lettered l [] h a n b = absurd (omega arith)
lettered l (x ∷ []) h a n b = absurd (omega arith)
lettered l (x ∷ y ∷ ys) h a n b =
    let letter-is : eqb x 44 ≡ false = ap (λ z. eqb z 44) a ∙ n in
    let comma-is : eqb y 44 ≡ true = eq-eqb y 44 b in
    rw (letter-is, comma-is) (ap (λ z. (z ∷ []) ∷ parts 44 ys) a)

-- another first field
unknown : (line : ℕ) (fields : List (List ℕ)) → letter 83 fields ≡ false → letter 84 fields ≡ false → content line fields ≡ Err (at UnknownLine line 1)
unknown line fields s t = rw (s, t) refl

long_first : (l x y : ℕ) (ps : List (List ℕ)) → 1 ≤ length ps → letter l (onto x (onto y ps)) ≡ false
long_first l x y [] h = absurd (omega arith)
long_first l x y (p ∷ ps) h = and_left (eqb (length (x ∷ y ∷ p)) 1) (eqb x l) (ne_eqb (length (x ∷ y ∷ p)) 1 (λ e. omega arith))

lone : (p q : Bool) (a b : Fault) → ◌≡◌ {A = Result Content Fault} (Err (cond (p || q) a b)) (ask (p || q) b (cond p (Err a) (Err a)))
lone true q a b = refl
lone false true a b = refl
lone false false a b = refl

-- neither 'S,' nor 'T,' in front
pub other : (line : ℕ) (bytes : List ℕ) → (2 ≤ length bytes → get_or bytes 0 0 ≡ 83 → get_or bytes 1 0 ≡ 44 → ⊥) → (2 ≤ length bytes → get_or bytes 0 0 ≡ 84 → get_or bytes 1 0 ≡ 44 → ⊥) → Err (cond (lone_letter bytes) (at FieldCount line 0) (at UnknownLine line 1)) ≡ content line (parts 44 bytes)
unfolding parts
other line [] s t = refl
other line (x ∷ []) s t =
    elim (cases_Bool (eqb x 44)) [
      | inl e ↦ let x-is = eqb-true x 44 e in rw (e, ap (λ z. eqb z 83) x-is, ap (λ z. eqb z 84) x-is) refl
      | inr e ↦ rw e (lone (eqb x 83) (eqb x 84) (at FieldCount line 0) (at UnknownLine line 1))
    ]
other line (x ∷ y ∷ ys) s t =
    let two : lone_letter (x ∷ y ∷ ys) ≡ false = and_left (eqb (length (x ∷ y ∷ ys)) 1) (eqb x 83 || eqb x 84) (ne_eqb _ 1 (λ e. omega arith)) in
    let none : ◌≡◌ {A = Result Content Fault} (Err (cond (lone_letter (x ∷ y ∷ ys)) (at FieldCount line 0) (at UnknownLine line 1))) (Err (at UnknownLine line 1)) = rw two refl in
    none ∙ sym (elim (cases_Bool (eqb x 44)) [
      | inl e ↦ rw e refl
      | inr e ↦ elim (cases_Bool (eqb y 44)) [
        | inl f ↦ let comma = eqb-true y 44 f in rw (e, f) (unknown line ((x ∷ []) ∷ parts 44 ys) (ne_eqb x 83 (λ h. s (omega arith) h comma)) (ne_eqb x 84 (λ h. t (omega arith) h comma)))
        | inr f ↦ rw (e, f) (unknown line (onto x (onto y (parts 44 ys))) (long_first 83 x y (parts 44 ys) (parts_some 44 ys)) (long_first 84 x y (parts 44 ys) (parts_some 44 ys)))
      ]
    ])
