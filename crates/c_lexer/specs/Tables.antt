-- Looking a spelling up in a table.
use Rattle.std.specs.Prelude.{ℕ, List, [], ◌∷◌, length, Option, Some, None, if◌then◌else◌, nat_eq}
use Rattle.std.specs.List.{starts_with}
use Rattle.std.specs.Str.{bytes_eq}
use Rattle.c_lexer.specs.Class.{Text}
use Rattle.c_lexer.specs.Vocabulary.{reserved_words, suffixes, punctuators, longest_first}
use Rattle.c_language.specs.declared.token.Punctuator.{Punctuator}
use Rattle.c_lexer.specs.declared.table.Reserved.{Reserved}
use Rattle.c_lexer.specs.declared.table.Suffix.{Suffix}

-- what stands beside a spelling
abbrev pub lookup : {T : Type 0} → List (Text × T) → Text → Option T
lookup [] word = None
lookup (row ∷ rows) word = if bytes_eq row.0 word then Some row.1 else lookup rows word

-- keywords (C99 6.4.1), `__func__` (6.4.2.2) and words that are dropped
unfoldable pub reserved : Text → Option Reserved
reserved = lookup reserved_words

-- suffixes of integer constants (C99 6.4.4.1)
unfoldable pub suffix : Text → Option Suffix
suffix = lookup suffixes

-- the first spelling that a text begins with
abbrev pub first_prefix : List (Text × Punctuator) → Text → Option (Punctuator × ℕ)
first_prefix [] text = None
first_prefix (row ∷ rows) text =
    if starts_with nat_eq text row.0 then Some (row.1, length row.0) else first_prefix rows text

-- The longest punctuator that a text begins with (C99 6.4.6), and its length.
unfoldable pub punctuator : Text → Option (Punctuator × ℕ)
punctuator = first_prefix (longest_first punctuators)
