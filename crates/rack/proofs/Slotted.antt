-- What the rows of a slot table give repeats itself with their cycle. Assumes nothing.
use Rattle.std.proofs.Common.{◌≡◌, ℕ, ◌+◌, ◌%◌, ◌<◌, ◌≤◌, Bool, true, false, cond, List, [], ◌∷◌, map, length, get_or, take, replicate, sym, refl, ap, ◌∙◌, add_comm, zero-add, mul-one, arith}
use mathlib.Core.Path.{fun_ext}
use native.Mathlib.Nat.{mod-add-mod}
use Rattle.std.proofs.lemmas.List.Sums.{sum_by-cons, sum_by_more}
use Rattle.std.proofs.ByRecursion.{sum_by_le}
use Rattle.std.proofs.lemmas.List.{length-take, length-map, get_or-map, take_all}
use Rattle.plan.specs.declared.row.SlotRow.{SlotRow}
use Rattle.std.specs.List.{AllByRecursion}
use Rattle.plan.specs.Rows.{marks_of, cycle_of, LeastCommon}
use Rattle.rack.specs.Cycle.{Periodic, repeated, cycle_table, least_window}
use Rattle.rack.specs.Least.{Least}
use Rattle.rack.specs.Slots.{gives, slot_row, slot_table}
use Rattle.rack.proofs.Counted.{zeros}
use Rattle.rack.specs.CycleLemmas.{repeated_is, one_cycle}
use Rattle.supply.specs.Window.{window}

-- a multiple of the period later, the remainder is the same
later : (x h p : ℕ) → h % p ≡ 0 → (x + h) % p ≡ x % p
later x h p e =
    ap (λ y. y % p) (add_comm x h) ∙ sym (mod-add-mod h p x) ∙ ap (λ y. (y + x) % p) e ∙ ap (λ y. y % p) (zero-add x)

-- rounds of the marks later, a row gives the same
pub gives_later : (marks : List Bool) (start i : ℕ) → start % length marks ≡ 0 → gives marks (start + i) ≡ gives marks i
gives_later marks start i e =
    ap (gives marks) (add_comm start i) ∙ ap (λ y. cond (get_or marks y false) 1 0) (later i start (length marks) e)

pub row_round : (h : ℕ) (rows : List (List Bool)) → AllByRecursion (λ p. h % p ≡ 0) (map length rows) → Periodic h (slot_row rows)
row_round h [] a x = refl
row_round h (m ∷ rows) a x =
    sum_by-cons (λ marks. gives marks (x + h)) m rows
    ∙ ap (λ y. cond (get_or m y false) 1 0 + slot_row rows (x + h)) (later x h (length m) a.0)
    ∙ ap (λ y. gives m x + y) (row_round h rows a.1 x)
    ∙ sym (sum_by-cons (λ marks. gives marks x) m rows)

one_or_none : (b : Bool) → cond b 1 0 ≤ 1
one_or_none true = omega arith
one_or_none false = omega arith

pub row_few : (rows : List (List Bool)) (x : ℕ) → slot_row rows x ≤ length rows
row_few rows x = omega (arith, sum_by_le (λ marks. gives marks x) 1 rows (each rows), mul-one (length rows))
  where
    each : (ms : List (List Bool)) → AllByRecursion (λ marks. gives marks x ≤ 1) ms
    each [] = tt
    each (m ∷ ms) = (one_or_none (get_or m (x % length m) false), each ms)

-- counts of one cycle, given over and over, are what the rows give
module _ (rows : List (List Bool)) (counts : List ℕ) (h : ℕ) (few : length rows ≤ 8) (cycle : h ≡ cycle_of (map length rows)) (common : LeastCommon (map length rows) h) (counted : (x : ℕ) → x < h → get_or counts x 0 ≡ slot_row rows x) where
  pub given_is : (x : ℕ) → repeated counts h x ≡ slot_row rows x
  given_is x =
      repeated_is counts h (slot_row rows) (omega (arith, common.0)) (row_round h rows common.1) (λ y. omega (arith, row_few rows y)) counted x

  pub table_is : (j n : ℕ) → cycle_table counts h j n ≡ slot_table rows j n
  table_is j n = ap (λ r. least_window j r h n) (fun_ext given_is) ∙ ap (λ k. least_window j (slot_row rows) k n) cycle

  pub table_least : (j n : ℕ) → Least (λ x. window j (slot_row rows) x n) (slot_table rows j n)
  table_least j n =
      rw (← cycle) (one_cycle j h (slot_row rows) (row_round h rows common.1) n (omega (arith, common.0)))

-- ---- counted row after row: in each tick x that is asked for, the counts so far are those of the first n rows

abbrev pub Sofar : List (List Bool) → ℕ → List ℕ → ℕ → Type 0
Sofar rows n counts x = get_or counts x 0 ≡ slot_row (take n rows) x

pub sofar_none : (rows : List (List Bool)) (x : ℕ) → Sofar rows 0 (replicate 512 0) x
sofar_none rows x = zeros 512 x

pub sofar_few : (rows : List (List Bool)) (n : ℕ) (counts : List ℕ) (x : ℕ) → n < 8 → Sofar rows n counts x → get_or counts x 0 ≤ 7
sofar_few rows n counts x few so = omega (arith, row_few (take n rows) x, length-take n rows)

-- the marks of the row that comes next
pub row_next : (items : List SlotRow) (rows : List (List Bool)) (n : ℕ) (row : SlotRow) → map marks_of items ≡ rows → n < length items → row ≡ get_or items n row → (n < length rows) × (get_or rows n (marks_of row) ≡ marks_of row)
row_next items rows n row e lt is = (
  omega (arith, simp length-map at (ap length e)),
  ap (λ l. get_or l n (marks_of row)) (sym e) ∙ get_or-map marks_of items n row (marks_of row) lt ∙ ap marks_of (sym is),
)

pub sofar_more : (rows : List (List Bool)) (n : ℕ) (marks : List Bool) (counts more : List ℕ) (x : ℕ) → (n < length rows) × (get_or rows n marks ≡ marks) → Sofar rows n counts x → get_or more x 0 ≡ get_or counts x 0 + gives marks x → Sofar rows (n + 1) more x
sofar_more rows n marks counts more x next so e =
    omega (arith, sum_by_more (λ m. gives m x) rows n marks next.0, ap (λ m. gives m x) next.1)

pub sofar_all : (rows : List (List Bool)) (n : ℕ) (counts : List ℕ) (x : ℕ) → length rows ≤ n → Sofar rows n counts x → get_or counts x 0 ≡ slot_row rows x
sofar_all rows n counts x all so = so ∙ ap (λ l. slot_row l x) (take_all n rows all)
