-- What the data of the machine are worth.
use Rattle.std.specs.Prelude.{ℕ, ℤ, pos, Option, Some}
use Rattle.plain_data.specs.Words.{from_bytes}
use Rattle.c_language.specs.declared.class.Class.{Class}
use Rattle.c_language.specs.declared.class.Class.TheVariants as class
use Rattle.c_machine.specs.declared.value.Value.{Value}
use Rattle.c_machine.specs.declared.value.Value.TheVariants.{Number, Bytes}

-- a structure's bytes spell its value, the least first
abbrev pub worth : Value → ℤ
worth (Number z) = z
worth (Bytes bytes) = pos (from_bytes bytes)

-- it is kept as a number
abbrev pub IsNumber : Value → Type 0
IsNumber (Number z) = Unit {0}
IsNumber (Bytes bytes) = ⊥

-- of an integer or pointer type
abbrev pub IsScalar : Class → Type 0
IsScalar (class.Integer kind) = Unit {0}
IsScalar class.Pointer = Unit {0}
IsScalar class.Void = ⊥
IsScalar class.Array = ⊥
IsScalar class.Function = ⊥
IsScalar class.Floating = ⊥
IsScalar (class.Aggregate n) = ⊥
IsScalar class.Opaque = ⊥
