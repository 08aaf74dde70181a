-- The grammar's tables, as C99 lists them: the binary operators by rank, and the words of declaration specifiers.
use Rattle.std.specs.Prelude.{ℕ, suc, List, [], ◌∷◌, ◌++◌, Bool, true, false, ◌||◌}
use denote.Enum.Bare.{sameb}
use Rattle.c_language.specs.declared.token.Keyword.{Keyword}
use Rattle.c_language.specs.declared.token.Keyword.TheVariants as keyword
use Rattle.c_language.specs.contracts.token.Keyword.{the_type as keyword_type}
use Rattle.c_language.specs.declared.expr.BinaryOperator.{BinaryOperator}
use Rattle.c_language.specs.declared.expr.BinaryOperator.TheVariants as binary
use Rattle.c_language.specs.contracts.expr.BinaryOperator.{the_type as binary_type}

-- ---- operators

-- a line for each of 6.5.5 to 6.5.14; an operator of an earlier line binds tighter
abbrev pub binary_levels : List (List BinaryOperator)
binary_levels =
    (binary.Multiply ∷ binary.Divide ∷ binary.Remainder ∷ [])
    ∷ (binary.Add ∷ binary.Subtract ∷ [])
    ∷ (binary.ShiftLeft ∷ binary.ShiftRight ∷ [])
    ∷ (binary.Less ∷ binary.Greater ∷ binary.LessEqual ∷ binary.GreaterEqual ∷ [])
    ∷ (binary.Equal ∷ binary.NotEqual ∷ [])
    ∷ (binary.BitAnd ∷ [])
    ∷ (binary.BitXor ∷ [])
    ∷ (binary.BitOr ∷ [])
    ∷ (binary.LogicalAnd ∷ [])
    ∷ (binary.LogicalOr ∷ [])
    ∷ []

abbrev pub is_in_level : BinaryOperator → List BinaryOperator → Bool
is_in_level operator [] = false
is_in_level operator (x ∷ xs) = sameb binary_type x operator || is_in_level operator xs

-- the rank of an operator, where the first line has this rank
abbrev pub level_from : ℕ → BinaryOperator → List (List BinaryOperator) → ℕ
level_from rank operator [] = rank
level_from rank operator (l ∷ ls) =
    elim (is_in_level operator l) as (λ _. ℕ) [ true ↦ rank | false ↦ level_from (suc rank) operator ls ]

-- ---- words

-- storage-class specifiers (6.7.1)
abbrev pub storage_words : List Keyword
storage_words =
    keyword.Typedef ∷ keyword.Extern ∷ keyword.Static ∷ keyword.Auto ∷ keyword.Register ∷ []

-- type specifiers (6.7.2) and the first words of those of structures, unions and enumerations
abbrev pub type_words : List Keyword
type_words =
    keyword.Void ∷ keyword.Char ∷ keyword.Short ∷ keyword.Int ∷ keyword.Long ∷ keyword.Float ∷ keyword.Double
    ∷ keyword.Signed ∷ keyword.Unsigned ∷ keyword.Bool ∷ keyword.Complex ∷ keyword.Imaginary
    ∷ keyword.Struct ∷ keyword.Union ∷ keyword.Enum ∷ []

-- type qualifiers (6.7.3)
abbrev pub qualifier_words : List Keyword
qualifier_words = keyword.Const ∷ keyword.Restrict ∷ keyword.Volatile ∷ []

-- function specifiers (6.7.4)
abbrev pub function_words : List Keyword
function_words = keyword.Inline ∷ []

-- the floating types of TS 18661-3, and the type of lists of variable arguments
abbrev pub other_words : List Keyword
other_words =
    keyword.Float32 ∷ keyword.Float64 ∷ keyword.Float32x ∷ keyword.Float64x ∷ keyword.Float128 ∷ keyword.VaList ∷ []

-- the words that begin a declaration specifier (6.7)
abbrev pub specifier_words : List Keyword
specifier_words = storage_words ++ type_words ++ qualifier_words ++ function_words ++ other_words

abbrev pub is_word_of : Keyword → List Keyword → Bool
is_word_of k [] = false
is_word_of k (x ∷ xs) = sameb keyword_type x k || is_word_of k xs
