-- The type specifiers that may stand together, each type by its own (C99 6.7.2).
use Rattle.std.specs.Prelude.{List, [], ◌∷◌, ◌++◌, Bool, true, false, ◌||◌, cond, Option, Some, None, option_map, map}
use denote.Enum.Bare.{sameb}
use Rattle.c_language.specs.declared.expr.TypeWord.{TypeWord}
use Rattle.c_language.specs.declared.expr.TypeWord.TheVariants as word
use Rattle.c_language.specs.contracts.expr.TypeWord.{the_type as word_type}
use Rattle.c_grammar.specs.declared.type_words.TypeKind.{TypeKind}
use Rattle.c_grammar.specs.declared.type_words.TypeKind.TheVariants as kind

-- ---- lists of words

-- the list of C99 6.7.2, in its order
abbrev pub standard_types : List (List TypeWord)
standard_types =
    (word.Void ∷ [])
    ∷ (word.Char ∷ [])
    ∷ (word.Signed ∷ word.Char ∷ [])
    ∷ (word.Unsigned ∷ word.Char ∷ [])
    ∷ (word.Short ∷ [])
    ∷ (word.Signed ∷ word.Short ∷ [])
    ∷ (word.Short ∷ word.Int ∷ [])
    ∷ (word.Signed ∷ word.Short ∷ word.Int ∷ [])
    ∷ (word.Unsigned ∷ word.Short ∷ [])
    ∷ (word.Unsigned ∷ word.Short ∷ word.Int ∷ [])
    ∷ (word.Int ∷ [])
    ∷ (word.Signed ∷ [])
    ∷ (word.Signed ∷ word.Int ∷ [])
    ∷ (word.Unsigned ∷ [])
    ∷ (word.Unsigned ∷ word.Int ∷ [])
    ∷ (word.Long ∷ [])
    ∷ (word.Signed ∷ word.Long ∷ [])
    ∷ (word.Long ∷ word.Int ∷ [])
    ∷ (word.Signed ∷ word.Long ∷ word.Int ∷ [])
    ∷ (word.Unsigned ∷ word.Long ∷ [])
    ∷ (word.Unsigned ∷ word.Long ∷ word.Int ∷ [])
    ∷ (word.Long ∷ word.Long ∷ [])
    ∷ (word.Signed ∷ word.Long ∷ word.Long ∷ [])
    ∷ (word.Long ∷ word.Long ∷ word.Int ∷ [])
    ∷ (word.Signed ∷ word.Long ∷ word.Long ∷ word.Int ∷ [])
    ∷ (word.Unsigned ∷ word.Long ∷ word.Long ∷ [])
    ∷ (word.Unsigned ∷ word.Long ∷ word.Long ∷ word.Int ∷ [])
    ∷ (word.Float ∷ [])
    ∷ (word.Double ∷ [])
    ∷ (word.Long ∷ word.Double ∷ [])
    ∷ (word.Bool ∷ [])
    ∷ (word.Float ∷ word.Complex ∷ [])
    ∷ (word.Double ∷ word.Complex ∷ [])
    ∷ (word.Long ∷ word.Double ∷ word.Complex ∷ [])
    ∷ []

-- the imaginary types (C99 G.2)
abbrev pub imaginary_types : List (List TypeWord)
imaginary_types =
    (word.Float ∷ word.Imaginary ∷ [])
    ∷ (word.Double ∷ word.Imaginary ∷ [])
    ∷ (word.Long ∷ word.Double ∷ word.Imaginary ∷ [])
    ∷ []

-- the floating types of TS 18661-3: real ones, which stand alone, complex and imaginary ones
abbrev pub interchange_types : List (List TypeWord)
interchange_types =
    (word.Float32 ∷ [])
    ∷ (word.Float64 ∷ [])
    ∷ (word.Float128 ∷ [])
    ∷ (word.Float32x ∷ [])
    ∷ (word.Float64x ∷ [])
    ∷ (word.Float32 ∷ word.Complex ∷ [])
    ∷ (word.Float64 ∷ word.Complex ∷ [])
    ∷ (word.Float128 ∷ word.Complex ∷ [])
    ∷ (word.Float32x ∷ word.Complex ∷ [])
    ∷ (word.Float64x ∷ word.Complex ∷ [])
    ∷ (word.Float32 ∷ word.Imaginary ∷ [])
    ∷ (word.Float64 ∷ word.Imaginary ∷ [])
    ∷ (word.Float128 ∷ word.Imaginary ∷ [])
    ∷ (word.Float32x ∷ word.Imaginary ∷ [])
    ∷ (word.Float64x ∷ word.Imaginary ∷ [])
    ∷ []

-- the type of lists of variable arguments, which a compiler has built in
abbrev pub builtin_types : List (List TypeWord)
builtin_types = (word.VaList ∷ []) ∷ []

-- A C library's headers declare the types of TS 18661-3 where a compiler has none, as `typedef float _Float32;`. There
-- the two words together are the floating type, and declare nothing.
abbrev pub declared_types : List (List TypeWord)
declared_types =
    (word.Float ∷ word.Float32 ∷ [])
    ∷ (word.Double ∷ word.Float64 ∷ [])
    ∷ (word.Double ∷ word.Float32x ∷ [])
    ∷ (word.Long ∷ word.Double ∷ word.Float64x ∷ [])
    ∷ []

-- ---- what is listed

abbrev pub as_kinds : List TypeWord → List TypeKind
as_kinds words = map (λ w. kind.Word w) words

-- every type by its specifiers; a structure, a union, an enumeration or a typedef name stands alone
abbrev pub types : List (List TypeKind)
types =
    (kind.Whole ∷ []) ∷ map as_kinds
    (standard_types ++ imaginary_types ++ interchange_types ++ builtin_types ++ declared_types)

abbrev pub same_kind : TypeKind → TypeKind → Bool
same_kind kind.NoType kind.NoType = true
same_kind (kind.Word a) (kind.Word b) = sameb word_type a b
same_kind kind.Whole kind.Whole = true
same_kind _ _ = false

-- what is left of a list where one of these is taken from it
abbrev pub without : TypeKind → List TypeKind → Option (List TypeKind)
without k [] = None
without k (x ∷ xs) = cond (same_kind k x) (Some xs) (option_map (λ ys. x ∷ ys) (without k xs))

-- whether two lists hold the same, each as often, in any order
abbrev pub same_in_any_order : List TypeKind → List TypeKind → Bool
same_in_any_order [] [] = true
same_in_any_order [] (y ∷ ys) = false
same_in_any_order (x ∷ xs) ys =
    elim (without x ys) as (λ _. Bool) [ None ↦ false | Some rest ↦ same_in_any_order xs rest ]

abbrev pub is_among : List TypeKind → List (List TypeKind) → Bool
is_among ks [] = false
is_among ks (t ∷ ts) = same_in_any_order ks t || is_among ks ts

-- those of declaration specifiers that say something of the type
abbrev pub type_specifiers : List TypeKind → List TypeKind
type_specifiers [] = []
type_specifiers (kind.NoType ∷ ks) = type_specifiers ks
type_specifiers (kind.Word w ∷ ks) = kind.Word w ∷ type_specifiers ks
type_specifiers (kind.Whole ∷ ks) = kind.Whole ∷ type_specifiers ks

-- whether declaration specifiers are those of one type, in any order
abbrev pub are_listed : List TypeKind → Bool
are_listed ks = is_among (type_specifiers ks) types
