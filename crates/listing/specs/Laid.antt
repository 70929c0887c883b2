-- Bytes that are laid into a buffer. Assumes nothing.
use Rattle.std.specs.Prelude.{ℕ, ◌+◌, List, ◌++◌, length, take, drop}

-- the buffer with these bytes from place at on; the others stay
abbrev pub laid : ℕ → List ℕ → List ℕ → List ℕ
laid at bytes out = take at out ++ (bytes ++ drop (at + length bytes) out)
