-- One line after another. Assumes nothing.
use Rattle.std.proofs.Common.{◌≡◌, ℕ, ◌+◌, ◌<◌, ◌≤◌, List, [], ◌∷◌, length, Ok, Err, sym, refl, ap, ◌∙◌, arith}
use Rattle.std.proofs.lemmas.Bool.{le-leb, lt-leb, ne_eqb}
use Rattle.text.specs.Bytes.{parts}
use Rattle.text.proofs.Parts.{parts_some}
use Rattle.plan.specs.declared.fault.Cause.TheVariants.{LineNotEnded}
use Rattle.plan.specs.declared.fault.Fault.{Fault}
use Rattle.plan.specs.Parts.{Content}
use Rattle.plan.specs.Reading.{ask, at, and_then, content, Contents, with_content, with_lines}

step : (line : ℕ) (so : Contents) (one : List ℕ) (ps : List (List ℕ)) → 1 ≤ length ps → length one ≤ 96 → with_lines line so (one ∷ ps) ≡ and_then (content line (parts 44 one)) (λ c. and_then (with_content so c) (λ more. with_lines (line + 1) more ps))
step line so one [] some short = absurd (omega arith)
step line so one (p ∷ ps) some short =
    ap (λ b. ask b (at LineNotEnded line 0) (and_then (content line (parts 44 one)) (λ c. and_then (with_content so c) (λ more. with_lines (line + 1) more (p ∷ ps))))) (le-leb (length one) 96 short)

-- a text that is cut at the end of its first line
module _ (line : ℕ) (so : Contents) (text one behind : List ℕ) (cut : parts 10 text ≡ one ∷ parts 10 behind) (short : length one ≤ 96) where
  first : with_lines line so (parts 10 text) ≡ and_then (content line (parts 44 one)) (λ c. and_then (with_content so c) (λ more. with_lines (line + 1) more (parts 10 behind)))
  first = ap (with_lines line so) cut ∙ step line so one (parts 10 behind) (parts_some 10 behind) short

  pub bad_fields : (f : Fault) → Err f ≡ content line (parts 44 one) → with_lines line so (parts 10 text) ≡ Err f
  bad_fields f e = first ∙ ap (λ r. and_then r (λ c. and_then (with_content so c) (λ more. with_lines (line + 1) more (parts 10 behind)))) (sym e)

  after : (k : Content) → Ok k ≡ content line (parts 44 one) → with_lines line so (parts 10 text) ≡ and_then (with_content so k) (λ more. with_lines (line + 1) more (parts 10 behind))
  after k e = first ∙ ap (λ r. and_then r (λ c. and_then (with_content so c) (λ more. with_lines (line + 1) more (parts 10 behind)))) (sym e)

  pub bad_line : (k : Content) (f : Fault) → Ok k ≡ content line (parts 44 one) → Err f ≡ with_content so k → with_lines line so (parts 10 text) ≡ Err f
  bad_line k f e g = after k e ∙ ap (λ r. and_then r (λ more. with_lines (line + 1) more (parts 10 behind))) (sym g)

  pub next_line : (k : Content) (more : Contents) → Ok k ≡ content line (parts 44 one) → Ok more ≡ with_content so k → with_lines line so (parts 10 text) ≡ with_lines (line + 1) more (parts 10 behind)
  next_line k more e g = after k e ∙ ap (λ r. and_then r (λ m. with_lines (line + 1) m (parts 10 behind))) (sym g)

-- ---- a line that is at fault itself

pub bad_end : (line : ℕ) (so : Contents) (text : List ℕ) → parts 10 text ≡ text ∷ [] → 0 < length text → with_lines line so (parts 10 text) ≡ Err (at LineNotEnded line 0)
bad_end line so text all some = ap (with_lines line so) all ∙ rw (ne_eqb (length text) 0 (λ e. omega arith)) refl

pub too_long : (line : ℕ) (so : Contents) (text one behind : List ℕ) → parts 10 text ≡ one ∷ parts 10 behind → 96 < length one → with_lines line so (parts 10 text) ≡ Err (at LineNotEnded line 0)
too_long line so text one behind cut long = ap (with_lines line so) cut ∙ go (parts 10 behind) (parts_some 10 behind)
  where
    go : (ps : List (List ℕ)) → 1 ≤ length ps → with_lines line so (one ∷ ps) ≡ Err (at LineNotEnded line 0)
    go [] none = absurd (omega arith)
    go (p ∷ ps) more = rw (lt-leb (length one) 96 long) refl
