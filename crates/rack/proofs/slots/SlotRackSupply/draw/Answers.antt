use Rattle.std.proofs.Common.{sym, refl, ap, ◌∙◌, add-zero, arith}
use Rattle.rack.specs.Cycle.{repeated}
use Rattle.rack.specs.CycleLemmas.{repeated_on, repeated_again}
use Rattle.rack.proofs.slots.SlotRackSupply.draw.Goals as goal

pub returns-then-self : goal.returns-then-self
returns-then-self c = record {
  value = c.number-number.ensures ∙ sym (ap (repeated c.args.self.now.levels.given c.args.self.now.levels.cycle) (add-zero c.args.self.now.tick));
  rest = repeated_again c.args.self.now.levels.given c.args.self.now.levels.cycle c.args.self.now.tick (omega arith);
  same = λ j n. refl;
}

pub returns-else-self : goal.returns-else-self
returns-else-self c = record {
  value = c.number-number.ensures ∙ sym (ap (repeated c.args.self.now.levels.given c.args.self.now.levels.cycle) (add-zero c.args.self.now.tick));
  rest = repeated_on c.args.self.now.levels.given c.args.self.now.levels.cycle c.args.self.now.tick (omega arith);
  same = λ j n. refl;
}
