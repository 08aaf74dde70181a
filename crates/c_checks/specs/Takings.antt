-- The types that functions of the C library have here, every pointer taken as one to void and without qualifiers.
use Rattle.std.specs.Prelude.{List, [], ◌∷◌, Option, Some}
use Rattle.c_language.specs.declared.ctype.IntegerKind.TheVariants as int_
use Rattle.c_means.specs.Rules.{Plain, PlainVoid, PlainPointer, PlainInteger, Taking}
use Rattle.c_checks.specs.declared.takings.PlainType.{PlainType}
use Rattle.c_checks.specs.declared.takings.PlainType.TheVariants as plain

abbrev pub as_plain : PlainType → Plain
as_plain plain.Void = PlainVoid
as_plain plain.Pointer = PlainPointer
as_plain plain.Int = PlainInteger int_.Int
as_plain plain.UnsignedLong = PlainInteger int_.UnsignedLong

abbrev pub all_plain : List PlainType → List (Option Plain)
all_plain [] = []
all_plain (x ∷ xs) = Some (as_plain x) ∷ all_plain xs

abbrev pub taking : PlainType → List PlainType → Taking
taking r xs = record { result = Some (as_plain r); parameters = all_plain xs }
