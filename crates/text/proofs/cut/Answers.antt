use Rattle.std.proofs.Common.{◌<◌, length, arith}
use Rattle.std.proofs.lemmas.List.{take_rest, length-take, length-drop}
use Rattle.text.specs.Bytes.{before}
use Rattle.text.proofs.Parts.{parts_uncut, parts_cut}
use Rattle.text.proofs.cut.Goals as goal

pub returns-then-n-s : goal.returns-then-n-s
returns-then-n-s c = parts_uncut c.args.b c.args.s.now (omega (arith, c.find-n.ensures))

pub returns : goal.returns
returns c =
    let inside : before c.args.b c.args.s.now < length c.args.s.now = omega (arith, c.find-n.ensures) in (
      simp (take_rest, c.find-n.ensures) (parts_cut c.args.b c.args.s.now inside),
      simp (length-take, length-drop) (omega arith),
    )
