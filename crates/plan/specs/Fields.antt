-- One field after another: what the cutting of a line at its commas finds. Assumes nothing.
use Rattle.std.specs.Prelude.{◌≡◌, ℕ, ◌≤◌, Bool, ◌&&◌, ◌||◌, List, [], ◌∷◌, length, Ok, Err, Result, ◌==◌, slice_index}
use Rattle.std.specs.Borrow.{Bor}
use Rattle.plan.specs.declared.fault.Cause.TheVariants.{FieldCount}
use Rattle.plan.specs.declared.fault.Fault.{Fault}
use Rattle.plan.specs.declared.fields.rest.Rest.{Rest}
use Rattle.plan.specs.Reading.{at}
use Rattle.text.specs.Bytes.{parts}

-- S or T with nothing behind it
abbrev pub lone_letter : List ℕ → Bool
lone_letter s = length s == 1 && (slice_index s 0 == 83 || slice_index s 0 == 84)

-- the first field, and the others still to come; where there are no others, the line has too few fields
abbrev pub Next : Rest → Result (Bor (List ℕ)) Fault → Rest → Type 0
Next so (Ok field) after = (parts 44 so.bytes.now ≡ field.now ∷ parts 44 after.bytes.now) × (after.line ≡ so.line)
Next so (Err f) after = (parts 44 so.bytes.now ≡ so.bytes.now ∷ []) × (f ≡ at FieldCount so.line 0)

-- the last field; where more follow, the line has too many
abbrev pub Last : Rest → Result (Bor (List ℕ)) Fault → Type 0
Last so (Ok field) = parts 44 so.bytes.now ≡ field.now ∷ []
Last so (Err f) = (2 ≤ length (parts 44 so.bytes.now)) × (f ≡ at FieldCount so.line 0)
