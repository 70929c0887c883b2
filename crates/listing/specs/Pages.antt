-- What the page of a listing holds. Assumes nothing.
use Rattle.std.specs.Prelude.{ℕ, List, take, decimal}
use Rattle.fixed.specs.Listed.{listed}
use Rattle.listing.specs.declared.page.Field.{Field}
use Rattle.listing.specs.declared.page.Field.TheVariants.{Word, Number}
use Rattle.listing.specs.declared.page.Page.{Page}

abbrev pub bytes_of : Field → List ℕ
bytes_of (Word s) = s.now
bytes_of (Number n) = decimal n

abbrev pub written : Page → List ℕ
written p = listed p.text

-- as much as a page has room for
abbrev pub fitting : List ℕ → List ℕ
fitting bytes = take 512 bytes
