use Rattle.std.proofs.Common.{◌≡◌, ◌+◌, ◌-◌, ◌<◌, ◌≤◌, true, false, eqb, [], ◌∷◌, length, take, drop, ◌⊎◌, inl, inr, sym, ap, ◌∙◌, arith, rules, tests}
use Rattle.std.proofs.lemmas.Fn.{always_returns_same}
use Rattle.std.proofs.lemmas.Result.{err_from_is_err_and}
use Rattle.std.proofs.lemmas.List.{nil_from_length}
use Rattle.std.proofs.lemmas.Bool.{cases_Bool, cases_lt}
use Rattle.std.specs.Cmp.Lexicographic.{pointwise}
use Rattle.text.specs.Bytes.{parts}
use Rattle.plan.specs.declared.fault.Cause.TheVariants.{LineNotEnded}
use Rattle.plan.specs.Contents.{drafted}
use Rattle.plan.specs.Parts.{content_of}
use Rattle.plan.specs.Reading.{at, with_lines}
use Rattle.plan.proofs.Ended.{FirstLine, shorter, line_ended, line_unended}
use Rattle.plan.proofs.Onward.{bad_fields, bad_line, next_line, bad_end, too_long}
use Rattle.plan.proofs.reader.take_lines.Goals as goal
use Rattle.plan.proofs.reader.take_lines.Goals.{In-Some, In_ok-bytes, In_err-bytes}

first : (c : In-Some) → FirstLine c.loop-i.i-iterator.iter.rest.now c.in-Some.ended.now c.next.new.self.iter.rest.now
first c =
    let s = c.in-Some.ensures.steps in
    record { i = s.0.1.0; whole = s.0.0; long = s.0.1.1; first = (s.0.1.2 (λ b. eqb b 10) (always_returns_same _ _ _ (λ a r q k. search (rules, tests)))).1; some = s.0.2 }

so_far : (c : In-Some) → with_lines (c.in-Some.i + 1) (drafted c.loop-i.draft) (parts 10 c.loop-i.i-iterator.iter.rest.now) ≡ with_lines 1 (drafted c.args.draft.now) (parts 10 c.args.text.now)
so_far c = ap (λ n. with_lines (n + 1) (drafted c.loop-i.draft) (parts 10 c.loop-i.i-iterator.iter.rest.now)) c.in-Some.ensures.steps.1 ∙ c.loop-i.invariant.0

-- ---- a line that is taken up

cut_off : (c : In_ok-bytes) → FirstLine c.loop-i.i-iterator.iter.rest.now c.in-Some.ended.now c.next.new.self.iter.rest.now → parts 10 c.loop-i.i-iterator.iter.rest.now ≡ c.in_ok-bytes.bytes.now ∷ parts 10 c.next.new.self.iter.rest.now
cut_off c line =
    let marked : pointwise eqb (drop (length c.in-Some.ended.now - 1) c.in-Some.ended.now) (10 ∷ []) ≡ true = search rules in
    let same : c.in_ok-bytes.bytes.now ≡ take (length c.in-Some.ended.now - 1) c.in-Some.ended.now = search rules in
    rw same (line_ended c.loop-i.i-iterator.iter.rest.now c.in-Some.ended.now c.next.new.self.iter.rest.now line marked)

short : (c : In_ok-bytes) → length c.in_ok-bytes.bytes.now ≤ 96
short c = search rules

fault : (c : In_err-bytes) → (pointwise eqb (drop (length c.in-Some.ended.now - 1) c.in-Some.ended.now) (10 ∷ []) ≡ false) ⊎ ((pointwise eqb (drop (length c.in-Some.ended.now - 1) c.in-Some.ended.now) (10 ∷ []) ≡ true) × (96 < length (take (length c.in-Some.ended.now - 1) c.in-Some.ended.now)))
fault c = elim (cases_Bool (pointwise eqb (drop (length c.in-Some.ended.now - 1) c.in-Some.ended.now) (10 ∷ []))) [
  | inl yes' ↦ inr (yes', elim (cases_lt 96 (length (take (length c.in-Some.ended.now - 1) c.in-Some.ended.now))) [ inl l ↦ l | inr few ↦ absurd (search rules) ])
  | inr no' ↦ inl no'
]

pub returns-in_err-bytes : goal.returns-in_err-bytes
returns-in_err-bytes c =
    let p = err_from_is_err_and c.from_residual.result c.from_residual.ensures.1 in
    let here = goal.at.returns-in_err-bytes c in
    let is : c.in_err-bytes.field-0.0 ≡ at LineNotEnded (c.in-Some.i + 1) 0 = search rules in
    let rest = c.loop-i.i-iterator.iter.rest.now in
    let behind = c.next.new.self.iter.rest.now in
    rw (p.1, p.2, is) (sym (elim (fault here.In_err-bytes) [
      | inl none ↦ bad_end (c.in-Some.i + 1) (drafted c.loop-i.draft) rest (line_unended rest c.in-Some.ended.now behind (first here.In-Some) none) (first here.In-Some).some
      | inr long ↦ too_long (c.in-Some.i + 1) (drafted c.loop-i.draft) rest _ behind (line_ended rest c.in-Some.ended.now behind (first here.In-Some) long.0) long.1
    ]) ∙ so_far here.In-Some)

pub returns-in_err-parse : goal.returns-in_err-parse
returns-in_err-parse c =
    let p = err_from_is_err_and c.from_residual-in_err-parse.result c.from_residual-in_err-parse.ensures.1 in
    let here = goal.at.returns-in_err-parse c in
    rw (p.1, p.2) (sym (bad_fields (c.in-Some.i + 1) (drafted c.loop-i.draft) c.loop-i.i-iterator.iter.rest.now c.in_ok-bytes.bytes.now c.next.new.self.iter.rest.now (cut_off here.In_ok-bytes (first here.In-Some)) (short here.In_ok-bytes) _ c.in_err-parse.ensures) ∙ so_far here.In-Some)

pub returns-in_err-take_line : goal.returns-in_err-take_line
returns-in_err-take_line c =
    let p = err_from_is_err_and c.from_residual-in_err-take_line.result c.from_residual-in_err-take_line.ensures.1 in
    let here = goal.at.returns-in_err-take_line c in
    rw (p.1, p.2) (sym (bad_line (c.in-Some.i + 1) (drafted c.loop-i.draft) c.loop-i.i-iterator.iter.rest.now c.in_ok-bytes.bytes.now c.next.new.self.iter.rest.now (cut_off here.In_ok-bytes (first here.In-Some)) (short here.In_ok-bytes) (content_of c.in_ok-parse.field-0) _ c.in_ok-parse.ensures c.in_err-take_line.ensures) ∙ so_far here.In-Some)

pub loop-i-preserved : goal.loop-i-preserved
loop-i-preserved c =
    let here = goal.at.loop-i-preserved c in
    let s = c.in-Some.ensures.steps in
    let less = shorter c.loop-i.i-iterator.iter.rest.now c.in-Some.ended.now c.next.new.self.iter.rest.now (first here.In-Some) in (
      ap (λ n. with_lines (n + 1) (drafted c.take_line.new.self) (parts 10 c.next.new.self.iter.rest.now)) (s.2 ∙ ap (λ n. n + 1) (sym s.1))
          ∙ sym (next_line (c.in-Some.i + 1) (drafted c.loop-i.draft) c.loop-i.i-iterator.iter.rest.now c.in_ok-bytes.bytes.now c.next.new.self.iter.rest.now (cut_off here.In_ok-bytes (first here.In-Some)) (short here.In_ok-bytes) (content_of c.in_ok-parse.field-0) _ c.in_ok-parse.ensures c.in_ok-take_line.ensures)
          ∙ so_far here.In-Some,
      omega (arith, less, s.1, s.2, c.loop-i.invariant.1),
    )

pub returns : goal.returns
unfolding parts
returns c =
    let none = nil_from_length c.loop-i.i-iterator.iter.rest.now c.in-None.ensures.steps.0.0 in
    ap (λ s. with_lines (c.loop-i.i-iterator.count + 1) (drafted c.loop-i.draft) (parts 10 s)) (sym none) ∙ c.loop-i.invariant.0
