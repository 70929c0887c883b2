use Rattle.std.proofs.Common.{refl, rules, arith}
use Rattle.std.proofs.lemmas.Iterator.{YieldsList-from_range}
use Rattle.dispatch.proofs.Picks.{soonest_picked}
use Rattle.dispatch.proofs.select.soonest.Goals as goal

pub returns : goal.returns
returns c = soonest_picked _ _ c.args.times.now (λ x t q k. search rules) _ (YieldsList-from_range 0 32 32 refl (omega arith)) c.min_by_key.result c.min_by_key.ensures.ran c.unwrap_or.result c.unwrap_or.ensures
