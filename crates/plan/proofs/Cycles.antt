-- The cycle of rows: the search for it, and one row more. Assumes nothing.
use Rattle.std.proofs.Common.{◌≡◌, ℕ, zero, suc, ◌+◌, ◌-◌, ◌*◌, ◌/◌, ◌%◌, ◌<◌, ◌≤◌, Bool, true, false, ◌&&◌, eqb, ◌⊎◌, List, [], ◌∷◌, ◌++◌, map, length, Some, None, sym, refl, ap, ◌∙◌, inl, inr, mod-lt, mod-eq_of_lt, div-add-mod', arith}
use native.Mathlib.Nat.{mod-mod_of_dvd, dvd_of_mod-eq-zero, zero-mod, add-mul-mod_self_right}
use Rattle.std.proofs.lemmas.Simd.{map-map}
use Rattle.std.proofs.Math.Bool.{and-true, and_assoc}
use Rattle.std.proofs.lemmas.List.{map_push}
use Rattle.std.proofs.lemmas.Bool.{eq-eqb, ne_eqb, and_left, and_right, and_parts, and_from, eqb-true, cases_Bool, cases_eq, cases_lt, both_ways, le-leb}
use Rattle.text.specs.Decimal.{at_most}
use Rattle.fixed.specs.Listed.{listed}
use Rattle.plan.specs.declared.row.SlotRow.{SlotRow}
use Rattle.plan.specs.declared.table.SlotTable.{SlotTable}
use Rattle.plan.specs.Rows.{marks_of, first_from, divided_by, cycle_of, periods_of, LeastCommon, CycleLaw}
use Rattle.std.specs.List.{AllByRecursion}

-- every period of a longer list divides h
divided_push : (ps : List ℕ) (p h : ℕ) → divided_by (ps ++ p ∷ []) h ≡ (divided_by ps h && eqb (h % p) 0)
divided_push [] p h = and-true (eqb (h % p) 0)
divided_push (q ∷ ps) p h = ap (λ b. eqb (h % q) 0 && b) (divided_push ps p h) ∙ sym (and_assoc (eqb (h % q) 0) (divided_by ps h) (eqb (h % p) 0))

pub divided_row : (rows : List SlotRow) (r : SlotRow) (h : ℕ) → divided_by (periods_of (rows ++ r ∷ [])) h ≡ (divided_by (periods_of rows) h && eqb (h % length (marks_of r)) 0)
divided_row rows r h = ap (λ ps. divided_by ps h) (map_push (λ x. length (marks_of x)) rows r) ∙ divided_push (periods_of rows) (length (marks_of r)) h

-- the periods of rows are the lengths of their marks
pub lengths : (rows : List SlotRow) → map length (map marks_of rows) ≡ periods_of rows
lengths rows = map-map length marks_of rows

pub cycle_push : (rows : List SlotRow) (r : SlotRow) → cycle_of (map length (map marks_of rows ++ marks_of r ∷ [])) ≡ cycle_of (periods_of (rows ++ r ∷ []))
cycle_push rows r = ap (λ rs. cycle_of (map length rs)) (sym (map_push marks_of rows r)) ∙ ap cycle_of (lengths (rows ++ r ∷ []))

-- ---- the cycle is the least common multiple

divided_all : (ps : List ℕ) (h : ℕ) → divided_by ps h ≡ true → AllByRecursion (λ p. h % p ≡ 0) ps
divided_all [] h e = tt
divided_all (p ∷ ps) h e = let parts = and_parts (eqb (h % p) 0) (divided_by ps h) e in (eqb-true (h % p) 0 parts.0, divided_all ps h parts.1)

all_divided : (ps : List ℕ) (h : ℕ) → AllByRecursion (λ p. h % p ≡ 0) ps → divided_by ps h ≡ true
all_divided [] h a = refl
all_divided (p ∷ ps) h a = and_from (eqb (h % p) 0) (divided_by ps h) (eq-eqb (h % p) 0 a.0) (all_divided ps h a.1)

-- what the search finds, of n numbers from h on: one that passes, or the number behind them; nothing below it passes
module _ (p : ℕ → Bool) where
  least_from : (n h k : ℕ) → h ≤ k → p k ≡ true → first_from p h n ≤ k ⊎ (h + n ≤ k)
  unfolding first_from
  least_from zero h k low yes' = inr (omega arith)
  least_from (suc n) h k low yes' =
      elim (cases_Bool (p h)) [
        | inl e ↦ rw e (inl low)
        | inr e ↦ rw e (elim (cases_eq h k) [
          | inl same ↦ absurd (both_ways (p k) (ap p (sym same) ∙ e) yes')
          | inr other ↦ elim (least_from n (suc h) k (omega arith) yes') [ inl f ↦ inl f | inr f ↦ inr (omega arith) ]
        ])
      ]

  passes_from : (n h : ℕ) → first_from p h n < h + n → p (first_from p h n) ≡ true
  unfolding first_from
  passes_from zero h less = absurd (omega arith)
  passes_from (suc n) h less =
      elim (cases_Bool (p h)) [
        | inl e ↦ rw e e
        | inr e ↦ rw e (passes_from n (suc h) (let l : first_from p (suc h) n < h + suc n = rw e at less in omega arith))
      ]

  bounds_from : (n h : ℕ) → (h ≤ first_from p h n) × (first_from p h n ≤ h + n)
  unfolding first_from
  bounds_from zero h = (omega arith, omega arith)
  bounds_from (suc n) h =
      elim (cases_Bool (p h)) [
        | inl e ↦ rw e (omega arith, omega arith)
        | inr e ↦ rw e (let b = bounds_from n (suc h) in (omega arith, omega arith))
      ]

pub cycle_law : CycleLaw
cycle_law ps =
    let b = bounds_from (divided_by ps) 512 1 in
    elim (cases_lt (cycle_of ps) 513) [
      | inl few ↦ inl (
        omega arith,
        (omega arith, divided_all ps (cycle_of ps) (passes_from (divided_by ps) 512 1 (omega arith)), λ k some all. elim (least_from (divided_by ps) 512 1 k some (all_divided ps k all)) [ inl f ↦ f | inr f ↦ omega arith ]),
      )
      | inr many ↦ inr (omega arith, λ k some all. elim (least_from (divided_by ps) 512 1 k some (all_divided ps k all)) [ inl f ↦ omega arith | inr f ↦ omega arith ])
    ]

pub least_common : (ps : List ℕ) → cycle_of ps ≤ 512 → LeastCommon ps (cycle_of ps)
least_common ps few = elim (cycle_law ps) [ inl l ↦ l.1 | inr n ↦ absurd (let past = n.0 in omega arith) ]

-- ---- one row more

-- what is left of a common multiple behind whole cycles is one too
all_left : (ps : List ℕ) (h k : ℕ) → AllByRecursion (λ p. h % p ≡ 0) ps → AllByRecursion (λ p. k % p ≡ 0) ps → AllByRecursion (λ p. k % h % p ≡ 0) ps
all_left [] h k a b = tt
all_left (p ∷ ps) h k a b = (mod-mod_of_dvd p k (dvd_of_mod-eq-zero p a.0) ∙ b.0, all_left ps h k a.1 b.1)

all_multiple : (ps : List ℕ) (h k : ℕ) → AllByRecursion (λ p. h % p ≡ 0) ps → k % h ≡ 0 → AllByRecursion (λ p. k % p ≡ 0) ps
all_multiple [] h k a whole = tt
all_multiple (p ∷ ps) h k a whole = (sym (mod-mod_of_dvd p k (dvd_of_mod-eq-zero p a.0)) ∙ (ap (λ x. x % p) whole ∙ zero-mod p), all_multiple ps h k a.1 whole)

-- a number between two multiples
between : (h k c : ℕ) → h % c ≡ 0 → h ≤ k → k < h + c → k % c ≡ k - h
between h k c whole low high =
    let parts : k ≡ (k - h) + h / c * c = omega (arith, div-add-mod' h c) in
    ap (λ x. x % c) parts ∙ (add-mul-mod_self_right (k - h) (h / c) c ∙ mod-eq_of_lt (omega arith))

-- so it is none: a common multiple is a multiple of the least
multiple : (ps : List ℕ) (h k : ℕ) → LeastCommon ps h → divided_by ps k ≡ true → k % h ≡ 0
multiple ps h k least all =
    elim (cases_eq (k % h) 0) [
      | inl e ↦ e
      | inr ne ↦ absurd (omega (arith, least.2 (k % h) (omega arith) (all_left ps h k least.1 (divided_all ps k all)), mod-lt k least.0))
    ]

module _ (p : ℕ → Bool) where
  first_is : (n h m : ℕ) → h ≤ m → m < h + n → p m ≡ true → ((k : ℕ) → h ≤ k → k < m → p k ≡ false) → first_from p h n ≡ m
  unfolding first_from
  first_is zero h m low high here below = absurd (omega arith)
  first_is (suc n) h m low high here below = elim (cases_eq h m) [
    | inl e ↦ rw (ap p e ∙ here) e
    | inr ne ↦ rw (below h (omega arith) (omega arith)) (first_is n (suc h) m (omega arith) (omega arith) here (λ k l. below k (omega arith)))
  ]

  first_none : (n h : ℕ) → ((k : ℕ) → h ≤ k → k < h + n → p k ≡ false) → first_from p h n ≡ h + n
  unfolding first_from
  first_none zero h below = omega arith
  first_none (suc n) h below = rw (below h (omega arith) (omega arith)) (omega (arith, first_none n (suc h) (λ k l m. below k (omega arith) (omega arith))))

-- the search over the multiples of the cycle so far: nothing below h is a multiple of all
abbrev pub Below : SlotTable → SlotRow → ℕ → Type 0
Below t r h = (k : ℕ) → 1 ≤ k → k < h → divided_by (periods_of (listed t.rows ++ r ∷ [])) k ≡ false

pub least : (t : SlotTable) → LeastCommon (periods_of (listed t.rows)) t.cycle
least t = rw t.repeats (least_common (periods_of (listed t.rows)) (omega (arith, t.short, t.repeats)))

module _ (t : SlotTable) (r : SlotRow) where
  not_multiple : (k : ℕ) → (k % t.cycle ≡ 0 → ⊥) → divided_by (periods_of (listed t.rows ++ r ∷ [])) k ≡ false
  not_multiple k not' =
      let none : divided_by (periods_of (listed t.rows)) k ≡ false = elim (cases_Bool (divided_by (periods_of (listed t.rows)) k)) [ inl e ↦ absurd (not' (multiple (periods_of (listed t.rows)) t.cycle k (least t) e)) | inr e ↦ e ] in
      divided_row (listed t.rows) r k ∙ and_left (divided_by (periods_of (listed t.rows)) k) (eqb (k % length (marks_of r)) 0) none

  pub first_multiple : Below t r t.cycle
  first_multiple k low high = not_multiple k (λ z. absurd (omega (arith, mod-eq_of_lt high, z)))

  pub next_multiple : (h : ℕ) → h % t.cycle ≡ 0 → (h % length (marks_of r) ≡ 0 → ⊥) → Below t r h → Below t r (h + t.cycle)
  next_multiple h whole not' below k low high =
      elim (cases_lt k h) [
        | inl less ↦ below k low less
        | inr past ↦ elim (cases_eq k h) [
          | inl e ↦ divided_row (listed t.rows) r k ∙ and_right (divided_by (periods_of (listed t.rows)) k) (eqb (k % length (marks_of r)) 0) (ne_eqb _ 0 (λ z. not' (ap (λ x. x % length (marks_of r)) (sym e) ∙ z)))
          | inr ne ↦ not_multiple k (λ z. absurd (omega (arith, between h k t.cycle whole past high, z)))
        ]
      ]

  pub at_multiple : (h : ℕ) → 1 ≤ h → h ≤ 512 → h % t.cycle ≡ 0 → h % length (marks_of r) ≡ 0 → Below t r h → Some h ≡ at_most 512 (Some (cycle_of (periods_of (listed t.rows ++ r ∷ []))))
  at_multiple h some high whole here below =
      let all = divided_row (listed t.rows) r h ∙ and_from (divided_by (periods_of (listed t.rows)) h) _ (all_divided (periods_of (listed t.rows)) h (all_multiple (periods_of (listed t.rows)) t.cycle h (least t).1 whole)) (eq-eqb _ 0 here) in
      let found : cycle_of (periods_of (listed t.rows ++ r ∷ [])) ≡ h = first_is (divided_by (periods_of (listed t.rows ++ r ∷ []))) 512 1 h some (omega arith) all below in
      rw found (rw (le-leb h 512 high) refl)

  pub no_multiple : (h : ℕ) → 512 < h → Below t r h → None ≡ at_most 512 (Some (cycle_of (periods_of (listed t.rows ++ r ∷ []))))
  no_multiple h past below =
      let none : cycle_of (periods_of (listed t.rows ++ r ∷ [])) ≡ 513 = first_none (divided_by (periods_of (listed t.rows ++ r ∷ []))) 512 1 (λ k low high. below k low (omega arith)) in
      rw none refl
