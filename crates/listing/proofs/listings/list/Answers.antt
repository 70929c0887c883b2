use Rattle.listing.proofs.Verdicts.{verdicts}
use Rattle.listing.proofs.listings.list.Goals as goal

pub returns-then-out-lt-ROOM-clause-verdicts : goal.returns-then-out-lt-ROOM-clause-verdicts
returns-then-out-lt-ROOM-clause-verdicts c = verdicts c.args.text.now

pub returns-clause-verdicts : goal.returns-clause-verdicts
returns-clause-verdicts c = verdicts c.args.text.now
