-- A text that is read from memory byte by byte: what was read, with what is left.
use Rattle.std.specs.Prelude.{ℕ, zero, suc, Bool, true, false, List, ◌++◌, Option, Some, None}

-- what was read stands in front of what is left, unless that misses every object
abbrev pub after : List ℕ → Option (List ℕ) → Option (List ℕ)
after front None = None
after front (Some bytes) = Some (front ++ bytes)

-- a precision that is used up
abbrev pub is_spent : Option ℕ → Bool
is_spent None = false
is_spent (Some zero) = true
is_spent (Some (suc n)) = false

-- the precision behind one byte
abbrev pub fewer : Option ℕ → Option ℕ
fewer None = None
fewer (Some zero) = Some zero
fewer (Some (suc n)) = Some n
