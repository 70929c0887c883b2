use Rattle.std.proofs.Common.{◌≡◌, ◌++◌, map, drop}
use Rattle.listing.specs.Listing.{ending}
use Rattle.listing.specs.Pages.{bytes_of, written, fitting}
use Rattle.listing.proofs.page.Page.put_line.Given as goal

-- what is written and what is still to come are the whole line
abbrev pub invariant-loop-field : goal.invariant-loop-field
invariant-loop-field l =
    fitting (written l.self ++ ending (map bytes_of (drop l.field-index l.others))) ≡ fitting (written l.initial.self ++ ending (map bytes_of l.others))
