-- What is written behind one another, as far as there is room. Assumes nothing.
use Rattle.std.proofs.Common.{◌≡◌, ℕ, zero, suc, ◌+◌, ◌<◌, ◌≤◌, List, [], ◌∷◌, ◌++◌, map, length, get_or, take, drop, refl, ap, ◌∙◌, arith}
use Rattle.std.proofs.lemmas.List.{length-take, append_assoc, append-nil, take_all, at_drop_more, at_drop_all}
use Rattle.listing.specs.declared.page.Field.{Field}
use Rattle.listing.specs.declared.page.Page.{Page}
use Rattle.listing.specs.Listing.{ending}
use Rattle.listing.specs.Pages.{bytes_of, written, fitting}

-- what was cut off before stays off
take_on : {X : Type 0} (n : ℕ) (a b : List X) → take n (take n a ++ b) ≡ take n (a ++ b)
take_on zero a b = refl
take_on (suc n) [] b = refl
take_on (suc n) (x ∷ a) b = ap (λ l. x ∷ l) (take_on n a b)

-- one piece more on a page, and what is still to come
pub fitting_on : (before piece rest now : List ℕ) → now ≡ fitting (before ++ piece) → fitting (now ++ rest) ≡ fitting (before ++ (piece ++ rest))
fitting_on before piece rest now e = ap (λ l. fitting (l ++ rest)) e ∙ take_on 512 (before ++ piece) rest ∙ ap fitting (append_assoc before piece rest)

-- a page has room for all that it holds
pub page_whole : (p : Page) → fitting (written p ++ []) ≡ written p
page_whole p = ap fitting (append-nil (written p)) ∙ take_all 512 (written p) (simp length-take (omega (arith, p.text.within)))

-- what fits is whole on an empty page
pub on_empty : (before now text : List ℕ) → before ≡ [] → now ≡ fitting (before ++ text) → length text ≤ 299 → now ≡ text
on_empty before now text empty e few = e ∙ ap (λ l. fitting (l ++ text)) empty ∙ take_all 512 text (omega (arith, few))

-- ---- the fields of a line from field n on

pub fields_more : (fields : List Field) (n : ℕ) (d : Field) → n < length fields → ending (map bytes_of (drop n fields)) ≡ 44 ∷ (bytes_of (get_or fields n d) ++ ending (map bytes_of (drop (n + 1) fields)))
fields_more fields n d inside = at_drop_more (λ l. ending (map bytes_of l)) fields n d inside

pub fields_done : (fields : List Field) (n : ℕ) → length fields ≤ n → ending (map bytes_of (drop n fields)) ≡ 10 ∷ []
fields_done fields n past = at_drop_all (λ l. ending (map bytes_of l)) fields n past
