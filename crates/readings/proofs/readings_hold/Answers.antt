use Rattle.std.proofs.Common.{refl}
use Rattle.text.specs.Bytes.{parts}
use Rattle.plan.specs.Rows.{first_from}
use Rattle.rack.specs.Least.{least as leastOf}
use Rattle.schedule.specs.Calls.{refusal}
use Rattle.schedule.specs.Counting.{sum, least}
use Rattle.schedule.specs.Order.{ahead, rank, word}
use Rattle.schedule.specs.Shift.{answers_of}
use Rattle.schedule.specs.Test.{charge, serves, witness, first_unserved}
use Rattle.supply.specs.Supplies.{greatest}
use Rattle.supply.specs.Window.{window}
use Rattle.readings.specs.Readings.{Readings, admissions, questions, times}
use Rattle.readings.proofs.readings_hold.Goals as goal

pub readings : Readings
unfolding parts first_from leastOf refusal sum least ahead rank word answers_of charge serves witness first_unserved greatest window admissions questions times
readings = record {
  read = refl;
  one_at_a_time = (refl, refl);
  two_at_a_time = (refl, refl);
  past_the_cycle = (refl, refl);
  no_ticks = λ j. refl;
  narrowed = refl;
  joined = refl;
  five_fit = refl;
  sixth_refused = refl;
  six_then_seven = (refl, refl);
  eighth_refused = refl;
  words = refl;
  released_again = (refl, refl);
}

pub returns : goal.returns
returns c = record { readings = readings; value = refl }
