-- Values as whole numbers (C99 6.2.6, 6.3): of an integer type the number itself, of a pointer its address, of a
-- structure or union the number that its bytes spell, the least first.
use Rattle.std.specs.Prelude.{ℕ, ◌/◌, ◌%◌, ◌^◌, ℤ, pos, Option, Some, None, unwrap_or, unsigned_abs}
use Rattle.plain_data.specs.declared.width.Width.TheVariants as width
use Rattle.plain_data.specs.Words.{word}
use Rattle.c_language.specs.declared.class.Class.{Class}
use Rattle.c_language.specs.declared.class.Class.TheVariants as class
use Rattle.c_language.specs.declared.ctype.CType.{CType}
use Rattle.c_language.specs.declared.tables.Tables.{Tables}
use Rattle.c_language.specs.Types.{class_of}
use Rattle.c_language.specs.Integers.{width_of, value_of_word, converted}
use Rattle.c_language.specs.Integers.{bytes_of as bytes_of_kind}
use Rattle.c_language.specs.Layouts.{size_of, pointer_bytes}

-- where a type belongs; what has no type breaks a rule, and is taken as void
abbrev pub class_in : Option CType → Class
class_in None = class.Void
class_in (Some t) = class_of t

-- integers and pointers have their sizes whatever the tables say; what has no size has no bytes, nor has void
abbrev pub bytes_as : Class → Option ℕ → ℕ
bytes_as (class.Integer kind) size = bytes_of_kind kind
bytes_as class.Pointer size = pointer_bytes
bytes_as class.Void size = 0
bytes_as c size = unwrap_or size 0

-- the bytes of an object of a type
abbrev pub bytes_of : Tables → Option CType → ℕ
bytes_of tables None = 0
bytes_of tables (Some t) = bytes_as (class_of t) (size_of tables t)

-- the 64-bit number of a pointer, and the pointer that an integer becomes (C99 6.3.2.3p5, p6)
abbrev pub address : ℤ → ℕ
address z = word width.W64 z

-- Conversion to a type, as by a cast or an assignment (C99 6.3.1.2, 6.3.1.3, 6.3.2.2, 6.3.2.3): a void expression has
-- no value, and nothing but itself becomes a structure.
abbrev pub converted_to : Class → ℤ → ℤ
converted_to (class.Integer kind) z = converted kind z
converted_to class.Pointer z = pos (address z)
converted_to class.Void z = pos 0
converted_to (class.Aggregate number) z = z
converted_to class.Array z = z
converted_to class.Function z = z
converted_to class.Floating z = z
converted_to class.Opaque z = z

-- the value whose bytes spell a number: a `_Bool` of a byte other than 0 has the value 1 (C99 6.2.6.1p4, 6.2.6.2)
abbrev pub value_of_bytes : Class → ℕ → ℤ
value_of_bytes (class.Integer kind) n = value_of_word kind n
value_of_bytes class.Pointer n = pos n
value_of_bytes class.Void n = pos 0
value_of_bytes (class.Aggregate number) n = pos n
value_of_bytes class.Array n = pos n
value_of_bytes class.Function n = pos n
value_of_bytes class.Floating n = pos n
value_of_bytes class.Opaque n = pos n

-- the number that the bytes of a value spell
abbrev pub bytes_of_value : Class → ℤ → ℕ
bytes_of_value (class.Integer kind) z = word (width_of kind) z
bytes_of_value class.Pointer z = address z
bytes_of_value class.Void z = 0
bytes_of_value (class.Aggregate number) z = unsigned_abs z
bytes_of_value class.Array z = unsigned_abs z
bytes_of_value class.Function z = unsigned_abs z
bytes_of_value class.Floating z = unsigned_abs z
bytes_of_value class.Opaque z = unsigned_abs z

-- n bytes from an offset on, of those that spell a number
abbrev pub bytes_within : ℕ → ℕ → ℕ → ℕ
bytes_within offset n x = (x / 256 ^ offset) % 256 ^ n
