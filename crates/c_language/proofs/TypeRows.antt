-- Rows of the definitions, each by computing: the data model, layouts, conversions, operators, compatible
-- types.
use Rattle.std.proofs.Common.{◌≡◌, ℕ, pos, negsuc, List, [], ◌∷◌, map, Bool, true, false, Option, Some, None, Ok, Err, refl}
use Rattle.plain_data.specs.declared.run.Undefined.TheVariants.{Overflow, ZeroDivisor, Shift}
use Rattle.c_language.specs.declared.ctype.IntegerKind.{IntegerKind}
use Rattle.c_language.specs.declared.ctype.IntegerKind.TheVariants as k
use Rattle.c_language.specs.declared.ctype.RealKind.TheVariants as r
use Rattle.c_language.specs.declared.ctype.Domain.TheVariants as m
use Rattle.c_language.specs.declared.ctype.Base.TheVariants as b
use Rattle.c_language.specs.declared.ctype.CType.{CType}
use Rattle.c_language.specs.declared.layouts.Extent.{Extent}
use Rattle.c_language.specs.declared.tables.AggregateForm.{AggregateForm}
use Rattle.c_language.specs.declared.tables.AggregateForm.TheVariants as f
use Rattle.c_language.specs.declared.tables.Content.TheVariants as c
use Rattle.c_language.specs.declared.tables.OpaqueCause.TheVariants as o
use Rattle.c_language.specs.declared.tables.Prototype.TheVariants as p
use Rattle.c_language.specs.declared.tables.Prototype.{Prototype}
use Rattle.c_language.specs.declared.tables.Signature.{Signature}
use Rattle.c_language.specs.declared.tables.Layout.{Layout}
use Rattle.c_language.specs.declared.tables.Member.{Member}
use Rattle.c_language.specs.declared.tables.Tables.{Tables}
use Rattle.c_language.specs.Types.{integer, floating, enumerated, aggregate, basic, void, pointer_to, array, function, qualified}
use Rattle.c_language.specs.declared.ctype.Qualifiers.{Qualifiers}
use Rattle.c_language.specs.Integers.{bytes_of, least_of, greatest_of, promoted, usual, converted}
use Rattle.c_language.specs.Layouts.{size_of, member_extent, placed, finished, no_members, is_too_large, is_opaque}
use Rattle.c_language.specs.Operators as op
use Rattle.c_language.specs.Compatible.{compatible, composite, adjusted}

-- ---- the data model: LP64, two's complement, plain char signed

abbrev all_kinds : List IntegerKind
all_kinds = k.Bool ∷ k.Char ∷ k.SignedChar ∷ k.UnsignedChar ∷ k.Short ∷ k.UnsignedShort ∷ k.Int
    ∷ k.UnsignedInt ∷ k.Long ∷ k.UnsignedLong ∷ k.LongLong ∷ k.UnsignedLongLong ∷ []

abbrev none : Tables
none = record { aggregates = []; enumerations = []; signatures = [] }

sizes : map bytes_of all_kinds ≡ 1 ∷ 1 ∷ 1 ∷ 1 ∷ 2 ∷ 2 ∷ 4 ∷ 4 ∷ 8 ∷ 8 ∷ 8 ∷ 8 ∷ []
sizes = refl

leasts : map least_of all_kinds
    ≡ pos 0 ∷ negsuc 127 ∷ negsuc 127 ∷ pos 0 ∷ negsuc 32767 ∷ pos 0 ∷ negsuc 2147483647 ∷ pos 0
    ∷ negsuc 9223372036854775807 ∷ pos 0 ∷ negsuc 9223372036854775807 ∷ pos 0 ∷ []
leasts = refl

greatests : map greatest_of all_kinds
    ≡ pos 1 ∷ pos 127 ∷ pos 127 ∷ pos 255 ∷ pos 32767 ∷ pos 65535 ∷ pos 2147483647 ∷ pos 4294967295
    ∷ pos 9223372036854775807 ∷ pos 18446744073709551615 ∷ pos 9223372036854775807
    ∷ pos 18446744073709551615 ∷ []
greatests = refl

promotions : map promoted all_kinds
    ≡ k.Int ∷ k.Int ∷ k.Int ∷ k.Int ∷ k.Int ∷ k.Int ∷ k.Int ∷ k.UnsignedInt ∷ k.Long ∷ k.UnsignedLong
    ∷ k.LongLong ∷ k.UnsignedLongLong ∷ []
promotions = refl

-- of all types with `int`, `unsigned int`, `long`, `unsigned long`, `long long`, `unsigned long long`
with_int : map (usual k.Int) all_kinds
    ≡ k.Int ∷ k.Int ∷ k.Int ∷ k.Int ∷ k.Int ∷ k.Int ∷ k.Int ∷ k.UnsignedInt ∷ k.Long ∷ k.UnsignedLong
    ∷ k.LongLong ∷ k.UnsignedLongLong ∷ []
with_int = refl

with_unsigned : map (usual k.UnsignedInt) all_kinds
    ≡ k.UnsignedInt ∷ k.UnsignedInt ∷ k.UnsignedInt ∷ k.UnsignedInt ∷ k.UnsignedInt ∷ k.UnsignedInt
    ∷ k.UnsignedInt ∷ k.UnsignedInt
    ∷ k.Long ∷ k.UnsignedLong ∷ k.LongLong ∷ k.UnsignedLongLong ∷ []
with_unsigned = refl

with_long : map (usual k.Long) all_kinds
    ≡ k.Long ∷ k.Long ∷ k.Long ∷ k.Long ∷ k.Long ∷ k.Long ∷ k.Long ∷ k.Long ∷ k.Long ∷ k.UnsignedLong
    ∷ k.LongLong ∷ k.UnsignedLongLong ∷ []
with_long = refl

with_unsigned_long : map (usual k.UnsignedLong) all_kinds
    ≡ k.UnsignedLong ∷ k.UnsignedLong ∷ k.UnsignedLong ∷ k.UnsignedLong ∷ k.UnsignedLong ∷ k.UnsignedLong
    ∷ k.UnsignedLong ∷ k.UnsignedLong
    ∷ k.UnsignedLong ∷ k.UnsignedLong ∷ k.UnsignedLongLong ∷ k.UnsignedLongLong ∷ []
with_unsigned_long = refl

with_long_long : map (usual k.LongLong) all_kinds
    ≡ k.LongLong ∷ k.LongLong ∷ k.LongLong ∷ k.LongLong ∷ k.LongLong ∷ k.LongLong ∷ k.LongLong ∷ k.LongLong
    ∷ k.LongLong ∷ k.UnsignedLongLong ∷ k.LongLong ∷ k.UnsignedLongLong ∷ []
with_long_long = refl

other_sizes : map (size_of none)
    (floating (record { real = r.Float; domain = m.Real })
    ∷ floating (record { real = r.Double; domain = m.Real })
    ∷ floating (record { real = r.LongDouble; domain = m.Real }) ∷ pointer_to void ∷ void ∷ basic b.VaList
    ∷ array (Some 3) (integer k.Short) ∷ array None (integer k.Short) ∷ [])
    ≡ Some 4 ∷ Some 8 ∷ Some 16 ∷ Some 8 ∷ None ∷ None ∷ Some 6 ∷ None ∷ []
other_sizes = refl

-- ---- layouts

abbrev with_extent : AggregateForm → Layout → Option Extent → List ℕ → CType → Option Layout
with_extent form l None name t = None
with_extent form l (Some e) name t = Some (placed form l e name t)

abbrev laid : AggregateForm → Option Layout → List ((List ℕ) × CType) → Option Layout
laid form None members = None
laid form (Some l) [] = Some (finished l)
laid form (Some l) ((name, t) ∷ members) = laid form (with_extent form l (member_extent none t) name t) members

abbrev offset : Member → ℕ
offset member = member.offset

-- size, alignment and the members' offsets
abbrev seen : Option Layout → List ℕ
seen None = []
seen (Some l) = l.size ∷ l.align ∷ map offset l.members

abbrev layout_of : AggregateForm → List ((List ℕ) × CType) → List ℕ
layout_of form members = seen (laid form (Some no_members) members)

-- struct { char a; int b; short c; }
padded : layout_of f.Structure ((97 ∷ [], integer k.Char) ∷ (98 ∷ [], integer k.Int)
    ∷ (99 ∷ [], integer k.Short) ∷ [])
    ≡ 12 ∷ 4 ∷ 0 ∷ 4 ∷ 8 ∷ []
padded = refl

-- struct { char a; long double d; }
wide : layout_of f.Structure ((97 ∷ [], integer k.Char)
    ∷ (100 ∷ [], floating (record { real = r.LongDouble; domain = m.Real })) ∷ [])
    ≡ 32 ∷ 16 ∷ 0 ∷ 16 ∷ []
wide = refl

-- union { char a[5]; int b; }
overlaid : layout_of f.Union ((97 ∷ [], array (Some 5) (integer k.Char)) ∷ (98 ∷ [], integer k.Int) ∷ [])
    ≡ 8 ∷ 4 ∷ 0 ∷ 0 ∷ []
overlaid = refl

-- struct { }
empty : layout_of f.Structure [] ≡ 0 ∷ 1 ∷ []
empty = refl

-- struct { char n; int tail[]; }
flexible : layout_of f.Structure ((110 ∷ [], integer k.Char) ∷ (116 ∷ [], array None (integer k.Int)) ∷ [])
    ≡ 4 ∷ 4 ∷ 0 ∷ 4 ∷ []
flexible = refl

-- a structure with a member of type void has no layout
void_member : layout_of f.Structure ((118 ∷ [], void) ∷ []) ≡ []
void_member = refl

-- aggregates by number: the first incomplete, the second opaque, the third of 12 bytes; one enumerated type,
-- and its list has ended
abbrev some : Tables
some =
    record {
      aggregates =
          record { form = f.Structure; content = c.Incomplete }
          ∷ record { form = f.Structure; content = c.Opaque o.BitField }
          ∷ record { form = f.Structure; content = c.Complete (record { size = 12; align = 4; members = [] }) }
          ∷ [];
      enumerations = record { is_complete = true } ∷ record { is_complete = false } ∷ [];
      signatures = [];
    }

by_number : map (size_of some)
    (aggregate 0 ∷ aggregate 1 ∷ aggregate 2 ∷ aggregate 3 ∷ pointer_to (aggregate 0)
    ∷ array (Some 2) (aggregate 2) ∷ enumerated 0 ∷ enumerated 1 ∷ [])
    ≡ None ∷ None ∷ Some 12 ∷ None ∷ Some 8 ∷ Some 24 ∷ Some 4 ∷ None ∷ []
by_number = refl

opaque : map (is_opaque some) (aggregate 0 ∷ aggregate 1 ∷ aggregate 2 ∷ basic b.VaList
    ∷ array (Some 2) (aggregate 1) ∷ pointer_to (aggregate 1) ∷ [])
    ≡ false ∷ true ∷ false ∷ true ∷ true ∷ false ∷ []
opaque = refl

too_large : map (is_too_large none)
    (array (Some 1048576) (integer k.Char) ∷ array (Some 1048577) (integer k.Char)
    ∷ pointer_to (array (Some 262145) (integer k.Int))
    ∷ array (Some 0) (array (Some 262145) (integer k.Int))
    ∷ array (Some 18446744073709551615) (integer k.Long) ∷ [])
    ≡ false ∷ true ∷ true ∷ true ∷ true ∷ []
too_large = refl

-- ---- conversion of values

conversions :
    converted k.UnsignedChar (negsuc 0) ∷ converted k.Char (pos 300) ∷ converted k.Char (pos 128)
    ∷ converted k.Bool (pos 256)
    ∷ converted k.Bool (pos 0) ∷ converted k.Int (pos 4294967295) ∷ converted k.UnsignedInt (negsuc 0)
    ∷ converted k.Long (pos 9223372036854775808)
    ∷ converted k.UnsignedLong (negsuc 0) ∷ converted k.Short (negsuc 32768) ∷ []
    ≡ pos 255 ∷ pos 44 ∷ negsuc 127 ∷ pos 1 ∷ pos 0 ∷ negsuc 0 ∷ pos 4294967295 ∷ negsuc 9223372036854775807
    ∷ pos 18446744073709551615 ∷ pos 32767 ∷ []
unfolding converted
conversions = refl

-- ---- operators

arithmetic :
    op.sum k.Int (pos 2147483647) (pos 1) ∷ op.sum k.UnsignedInt (pos 4294967295) (pos 1)
    ∷ op.difference k.UnsignedInt (pos 0) (pos 1)
    ∷ op.product k.Int (pos 65536) (pos 32768)
    ∷ op.product k.UnsignedLong (pos 18446744073709551615) (pos 18446744073709551615)
    ∷ op.quotient k.Int (negsuc 6) (pos 2) ∷ op.remainder k.Int (negsuc 6) (pos 2)
    ∷ op.quotient k.Int (pos 1) (pos 0) ∷ op.remainder k.Int (pos 1) (pos 0)
    ∷ op.quotient k.Int (negsuc 2147483647) (negsuc 0) ∷ op.remainder k.Int (negsuc 2147483647) (negsuc 0)
    ∷ op.quotient k.UnsignedInt (negsuc 2147483647) (negsuc 0) ∷ op.negation k.Int (negsuc 2147483647)
    ∷ op.negation k.UnsignedInt (pos 1) ∷ []
    ≡ Err Overflow ∷ Ok (pos 0) ∷ Ok (pos 4294967295) ∷ Err Overflow ∷ Ok (pos 1) ∷ Ok (negsuc 2)
    ∷ Ok (negsuc 0) ∷ Err ZeroDivisor ∷ Err ZeroDivisor
    ∷ Err Overflow ∷ Err Overflow ∷ Ok (pos 0) ∷ Err Overflow ∷ Ok (pos 4294967295) ∷ []
unfolding converted op.exact
arithmetic = refl

shifts :
    op.shifted_left k.Int (pos 1) (pos 30) ∷ op.shifted_left k.Int (pos 1) (pos 31)
    ∷ op.shifted_left k.Int (negsuc 0) (pos 0) ∷ op.shifted_left k.Int (pos 0) (pos 32)
    ∷ op.shifted_left k.Int (pos 1) (negsuc 0) ∷ op.shifted_left k.UnsignedInt (pos 3) (pos 31)
    ∷ op.shifted_right k.Int (negsuc 6) (pos 1)
    ∷ op.shifted_right k.UnsignedInt (negsuc 0) (pos 28) ∷ op.shifted_right k.Long (pos 1) (pos 64) ∷ []
    ≡ Ok (pos 1073741824) ∷ Err Shift ∷ Err Shift ∷ Err Shift ∷ Err Shift ∷ Ok (pos 2147483648)
    ∷ Ok (negsuc 3) ∷ Ok (pos 15) ∷ Err Shift ∷ []
unfolding converted op.exact
shifts = refl

words :
    op.bits_and k.Int (negsuc 0) (pos 12) ∷ op.bits_or k.Int (negsuc 7) (pos 1)
    ∷ op.bits_xor k.Int (negsuc 0) (pos 1) ∷ op.complement k.Int (pos 5)
    ∷ op.complement k.UnsignedInt (pos 0) ∷ op.less k.Int (negsuc 0) (pos 1)
    ∷ op.less k.UnsignedInt (negsuc 0) (pos 1)
    ∷ op.less_equal k.Int (pos 2) (pos 2) ∷ op.equal k.UnsignedInt (negsuc 0) (pos 4294967295)
    ∷ op.unequal k.Long (negsuc 0) (pos 4294967295) ∷ []
    ≡ pos 12 ∷ negsuc 6 ∷ negsuc 1 ∷ negsuc 5 ∷ pos 4294967295 ∷ pos 1 ∷ pos 0 ∷ pos 1 ∷ pos 1 ∷ pos 1 ∷ []
unfolding converted
words = refl

-- ---- compatible types

abbrev takes : Prototype → List CType → Signature
takes prototype parameters = record { prototype = prototype; parameters = parameters }

abbrev constant : Qualifiers
constant = record { is_const = true; is_volatile = false; is_restrict = false }

abbrev float : CType
float = floating (record { real = r.Float; domain = m.Real })

-- signatures: 0 `()`, 1 `(int)`, 2 `(char)`, 3 `(float)`, 4 `(const int)`, 5 `(void)`, 6 `()` of a definition,
-- 7 `(int, ...)`, 8 `(int (*)(int))`, 9 `(int (*)())`
abbrev functions : Tables
functions =
    record {
      aggregates = [];
      enumerations = record { is_complete = true } ∷ record { is_complete = true } ∷ [];
      signatures =
          takes p.Unspecified [] ∷ takes p.Fixed (integer k.Int ∷ []) ∷ takes p.Fixed (integer k.Char ∷ [])
          ∷ takes p.Fixed (float ∷ [])
          ∷ takes p.Fixed (qualified constant (integer k.Int) ∷ []) ∷ takes p.Fixed []
          ∷ takes p.EmptyDefinition []
          ∷ takes p.Variadic (integer k.Int ∷ []) ∷ takes p.Fixed (pointer_to (function 1 (integer k.Int)) ∷ [])
          ∷ takes p.Fixed (pointer_to (function 0 (integer k.Int)) ∷ []) ∷ [];
    }

abbrev of_functions : ℕ → ℕ → Bool
of_functions x y = compatible functions (function x (integer k.Int)) (function y (integer k.Int))

signatures :
    of_functions 0 1 ∷ of_functions 2 0 ∷ of_functions 0 3 ∷ of_functions 1 4 ∷ of_functions 1 2
    ∷ of_functions 5 6 ∷ of_functions 1 6 ∷ of_functions 0 7
    ∷ of_functions 1 7 ∷ of_functions 8 9 ∷ of_functions 0 6 ∷ []
    ≡ true ∷ false ∷ false ∷ true ∷ false ∷ true ∷ false ∷ false ∷ false ∷ true ∷ true ∷ []
signatures = refl

types :
    compatible functions (enumerated 0) (integer k.Int) ∷ compatible functions (enumerated 0) (enumerated 1)
    ∷ compatible functions (enumerated 0) (integer k.UnsignedInt)
    ∷ compatible functions (integer k.Char) (integer k.SignedChar)
    ∷ compatible functions (integer k.Long) (integer k.LongLong)
    ∷ compatible functions (pointer_to (integer k.Int)) (pointer_to (qualified constant (integer k.Int)))
    ∷ compatible functions (array None (integer k.Int)) (array (Some 3) (integer k.Int))
    ∷ compatible functions (array (Some 2) (integer k.Int)) (array (Some 3) (integer k.Int))
    ∷ compatible functions (pointer_to (function 1 void)) (pointer_to (function 0 void))
    ∷ compatible functions (function 1 void) (pointer_to (function 1 void)) ∷ []
    ≡ true ∷ false ∷ false ∷ false ∷ false ∷ false ∷ true ∷ false ∷ true ∷ false ∷ []
types = refl

completed :
    composite functions (array None (pointer_to (function 0 void))) (array (Some 3) (pointer_to (function 1 void)))
    ≡ array (Some 3) (pointer_to (function 1 void))
completed = refl

-- the qualifiers of an array are those of its elements, and a parameter of array type is a pointer
elements : qualified constant (array (Some 2) (integer k.Int))
    ≡ array (Some 2) (qualified constant (integer k.Int))
elements = refl

parameter : adjusted constant (array (Some 2) (array (Some 3) (integer k.Int)))
    ≡ qualified constant (pointer_to (array (Some 3) (integer k.Int)))
parameter = refl
