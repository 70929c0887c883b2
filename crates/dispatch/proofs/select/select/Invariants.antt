use Rattle.std.proofs.Common.{◌≡◌, length}
use Rattle.dispatch.specs.Rows.{slots}
use Rattle.schedule.specs.Order.{word}
use Rattle.dispatch.proofs.Picks.{Left}
use Rattle.dispatch.proofs.select.select.Given as goal

-- the word names those that run on as many processors as there were picks, and the times of the others stand
abbrev pub invariant-loop-picked : goal.invariant-loop-picked
invariant-loop-picked l =
    (length l.times ≡ 32) × (l.word ≡ word (slots l.rows) l._picked) × Left (slots l.rows) l._picked l.times
