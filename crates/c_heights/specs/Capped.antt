-- Heights as 32 bits hold them.
use Rattle.std.specs.Prelude.{ℕ, min}

-- a number, or the greatest of 32 bits where it is greater
abbrev pub capped : ℕ → ℕ
capped n = min n 4294967295
