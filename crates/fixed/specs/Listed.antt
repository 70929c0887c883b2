-- What a list of fixed room holds. Assumes nothing.
use Rattle.std.specs.Prelude.{ℕ, List, take}
use Rattle.fixed.specs.declared.list.FixedList.{FixedList}

-- the items in their order
abbrev pub listed : {T : Type 0} {n : ℕ} → FixedList T n → List T
listed l = take l.count l.items
