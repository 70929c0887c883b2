use Rattle.std.proofs.Common.{◌≡◌, ◌+◌, ◌<◌, Bool, true, false, cond, length, sym, refl, ap, ◌∙◌, subst, add-zero, add_assoc, arith}
use mir.Val.{bool_byte}
use Rattle.plan.specs.Rows.{marks_of}
use Rattle.rack.specs.Slots.{gives}
use Rattle.rack.proofs.Counted.{Added, added_none, added_more}
use Rattle.rack.proofs.Slotted.{gives_later}
use Rattle.rack.proofs.counts.add_round.Goals as goal

byte_is : (b : Bool) → bool_byte b ≡ cond b 1 0
byte_is true = refl
byte_is false = refl

pub loop-i-init : goal.loop-i-init
loop-i-init c = rw add-zero (added_none _ _ _)

pub loop-i-preserved : goal.loop-i-preserved
loop-i-preserved c =
    let given : c.from.result ≡ gives (marks_of c.args.row.now) (c.args.start + c.loop-i.i) =
    c.from.ensures ∙ ap bool_byte c.gives.ensures ∙ byte_is _ ∙ sym (gives_later (marks_of c.args.row.now) c.args.start c.loop-i.i c.requires.begins) in
    let inside : c.args.start + c.loop-i.i < length c.loop-i.counts = omega (arith, c.loop-i.invariant.long) in
    subst (Added c.args.counts.now _ (gives (marks_of c.args.row.now)) c.args.start) (add_assoc c.args.start c.loop-i.i 1)
    (added_more c.args.counts.now c.loop-i.counts _ c.args.start (c.args.start + c.loop-i.i) c.from.result c.loop-i.invariant (omega arith) inside given)
