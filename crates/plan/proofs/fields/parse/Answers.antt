use Rattle.std.proofs.Common.{◌≡◌, ◌≤◌, length, get_or, sym, refl, ap, ◌∙◌, arith, rules}
use Rattle.std.proofs.lemmas.List.{take_rest}
use Rattle.plan.proofs.Lines.{lettered, other}
use Rattle.plan.specs.Reading.{content}
use Rattle.plan.proofs.fields.parse.Goals as goal
use Rattle.plan.proofs.fields.parse.Goals.{in_default-via-then-bytes-lt2, in_default-via-else-bytes-lt2+in-83+in_default-1, in_default-via-else-bytes-lt2+in-84+in_default-1, in_default-via-else-bytes-lt2+in_default-1}

pub returns-in-83 : goal.returns-in-83
returns-in-83 c =
    let long : 2 ≤ length c.args.bytes.now = search rules in
    let first : get_or c.args.bytes.now 0 0 ≡ 83 = search rules in
    let second : get_or c.args.bytes.now 1 0 ≡ 44 = search rules in
    simp take_rest at c.row_line.ensures ∙ ap (content c.args.line) (sym (lettered 83 c.args.bytes.now long first refl second))

pub returns-in-84 : goal.returns-in-84
returns-in-84 c =
    let long : 2 ≤ length c.args.bytes.now = search rules in
    let first : get_or c.args.bytes.now 0 0 ≡ 84 = search rules in
    let second : get_or c.args.bytes.now 1 0 ≡ 44 = search rules in
    simp take_rest at c.task_line.ensures ∙ ap (content c.args.line) (sym (lettered 84 c.args.bytes.now long first refl second))

pub returns-in_default : goal.returns-in_default
returns-in_default c = rw c.other_line.ensures (
    elim c.in_default.branch [
      | in_default-via-then-bytes-lt2 w ↦ other c.args.line c.args.bytes.now (λ h a b. grind arith) (λ h a b. grind arith)
      | in_default-via-else-bytes-lt2+in-83+in_default-1 w ↦ other c.args.line c.args.bytes.now (λ h a b. grind arith) (λ h a b. grind arith)
      | in_default-via-else-bytes-lt2+in-84+in_default-1 w ↦ other c.args.line c.args.bytes.now (λ h a b. grind arith) (λ h a b. grind arith)
      | in_default-via-else-bytes-lt2+in_default-1 w ↦ other c.args.line c.args.bytes.now (λ h a b. grind arith) (λ h a b. grind arith)
    ])
