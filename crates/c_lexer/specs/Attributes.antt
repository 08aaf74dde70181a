-- Attributes of GNU C, which are no tokens: the word and its matched parentheses.
use Rattle.std.specs.Prelude.{◌||◌, if◌then◌else◌, List, [], ◌∷◌, drop, codes, unwrap_or, Option, Some, None}
use Rattle.std.specs.Str.{bytes_eq}
use Rattle.c_language.specs.declared.token.Token.{Token}
use Rattle.c_language.specs.declared.token.TokenKind.{TokenKind}
use Rattle.c_language.specs.declared.token.TokenKind.TheVariants as kind
use Rattle.c_language.specs.declared.token.Punctuator.TheVariants as mark
use Rattle.c_lexer.specs.declared.attribute.Role.{Role}
use Rattle.c_lexer.specs.declared.attribute.Role.TheVariants as role

-- how a token takes part in attributes
abbrev pub role_of : TokenKind → Role
role_of (kind.Punctuator mark.LeftParen) = role.Open
role_of (kind.Punctuator mark.RightParen) = role.Close
role_of (kind.Identifier name) =
    if bytes_eq name (codes "__attribute__") || bytes_eq name (codes "__attribute") then role.Attribute else role.Other
role_of _ = role.Other

-- What is kept of some tokens; if they begin with a parenthesis that is closed, what is kept after it; and what is kept
-- after each parenthesis that closes none of them.
pub record Kept : Type 0 where
  pub here : List Token
  pub group : Option (List Token)
  pub closers : List (List Token)

abbrev pub first_of_all : List (List Token) → Option (List Token)
first_of_all [] = None
first_of_all (c ∷ cs) = Some c

abbrev pub kept_before : Role → Token → Kept → Kept
kept_before role.Open t k = record { here = t ∷ k.here; group = first_of_all k.closers; closers = drop 1 k.closers }
kept_before role.Close t k = record { here = t ∷ k.here; group = None; closers = k.here ∷ k.closers }
kept_before role.Attribute t k = record { here = unwrap_or k.group (t ∷ k.here); group = None; closers = k.closers }
kept_before role.Other t k = record { here = t ∷ k.here; group = None; closers = k.closers }

abbrev pub keep : List Token → Kept
keep [] = record { here = []; group = None; closers = [] }
keep (t ∷ ts) = kept_before (role_of t.kind) t (keep ts)

-- the tokens without their attributes: an attribute's word with no matched parentheses stays, as an identifier
abbrev pub without_attributes : List Token → List Token
without_attributes ts = (keep ts).here
