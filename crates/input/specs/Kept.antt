-- What is kept of a text. Assumes nothing.
use Rattle.std.specs.Prelude.{ℕ, List}
use Rattle.fixed.specs.Listed.{listed}
use Rattle.input.specs.declared.front.Front.{Front}

abbrev pub kept : Front → List ℕ
kept f = listed f.bytes
