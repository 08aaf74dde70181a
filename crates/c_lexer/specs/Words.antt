-- What is known of words.
use Rattle.std.specs.Prelude.{◌≡◌, IfSome}
use Rattle.std.specs.HashMap.{get_by}
use Rattle.std.specs.Str.{bytes_eq}
use Rattle.c_lexer.specs.Class.{Text}
use Rattle.c_lexer.specs.Meaning.{word_kind, meant_kind}
use Rattle.c_lexer.specs.declared.words.Words.{Words}

-- what was found of a word is what it means
abbrev pub IsRight : Words → Type 0
IsRight words = (bytes : Text) →
    IfSome (get_by (λ key. bytes_eq bytes key.now) words.seen) (λ meant. meant_kind meant ≡ word_kind bytes)
