-- Types of C that store as types of the core do, and branches that were noted.
use Rattle.std.specs.Prelude.{◌≡◌, ℕ, ℤ, Bool, true, false, Result, Ok, Err}
use Rattle.std.specs.declared.alloc.AllocError.{AllocError}
use Rattle.plain_data.specs.declared.run.Happening.TheVariants.{Branch}
use Rattle.plain_data.specs.declared.run.Side.TheVariants as side
use Rattle.c_language.specs.declared.class.Class.{Class}
use Rattle.c_language.specs.Integers.{is_zero}
use Rattle.c_means.specs.Values as values
use Rattle.core_tree.specs.declared.types.ValueType.{ValueType}
use Rattle.core_tree.specs.Numbers.{size_of, converted_to, bytes_of_value}
use Rattle.core_tree.specs.States.{Output, Done, plain, note}

-- a value of a class, in n bytes, is stored as one of a type of the core
pub record StoresAs (c : Class) (n : ℕ) (t : ValueType) : Type 0 where
  pub size : size_of t ≡ n
  pub bytes : (z : ℤ) → bytes_of_value t z ≡ values.bytes_of_value c z
  pub converted : (z : ℤ) → converted_to t z ≡ values.converted_to c z

-- the side that a value takes was noted
abbrev pub Branched : Result Bool AllocError → ℕ → ℤ → Done Output → Done Output → Type 0
Branched (Ok true) at z d e = (is_zero z ≡ false) × (e ≡ note plain (Branch at side.Yes) d)
Branched (Ok false) at z d e = (is_zero z ≡ true) × (e ≡ note plain (Branch at side.No) d)
Branched (Err x) at z d e = Unit {0}
