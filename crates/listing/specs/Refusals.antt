-- The number and the words by which a listing is refused. Assumes nothing.
use Rattle.std.specs.Prelude.{ℕ, List, codes}
use Rattle.listing.specs.declared.refusal.ListingRefusal.{ListingRefusal}
use Rattle.listing.specs.declared.refusal.ListingRefusal.TheVariants.{BufferTooSmall}

abbrev pub number_of : ListingRefusal → ℕ
number_of BufferTooSmall = 30

abbrev pub text_of : ListingRefusal → List ℕ
text_of BufferTooSmall = codes "a buffer that is too small"
