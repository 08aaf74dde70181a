-- Attributes of GNU C are no tokens: the attribute's word goes, with the group of matched round brackets behind it.
use Rattle.std.specs.Prelude.{◌≡◌, ◌≢◌, true, List, [], ◌∷◌, ◌++◌, Ok}
use Rattle.c_lexer.specs.Class.{Text}
use Rattle.c_lexer.specs.Division.{Element}
use Rattle.c_lexer.specs.Spelling.{Divides}
use Rattle.c_lexer.specs.Places.{beginning}
use Rattle.c_lexer.specs.Attributes.{role_of}
use Rattle.c_lexer.specs.Reading.{read}
use Rattle.c_lexer.specs.declared.attribute.Role.TheVariants as role
use Rattle.c_language.specs.declared.token.Token.{Token}
use Rattle.c_language.specs.declared.token.Tokens.{Tokens}

-- tokens whose round brackets match
pub data Matched : List Token → Type 0 where
  none : Matched []
  plain : (t : Token) (ts : List Token) → role_of t.kind ≢ role.Open → role_of t.kind ≢ role.Close →
      Matched ts → Matched (t ∷ ts)
  group : (first last : Token) (inner ts : List Token) → role_of first.kind ≡ role.Open →
      role_of last.kind ≡ role.Close → Matched inner → Matched ts → Matched (first ∷ (inner ++ last ∷ ts))

-- tokens whose round brackets match stand first, then a closing bracket, and then the rest
pub record IsClosed (tokens rest : List Token) : Type 0 where
  pub inner : List Token
  pub last : Token
  pub is : tokens ≡ inner ++ last ∷ rest
  pub matched : Matched inner
  pub closes : role_of last.kind ≡ role.Close

-- an opening bracket stands before them
pub record IsGroup (tokens rest : List Token) : Type 0 where
  pub first : Token
  pub more : List Token
  pub is : tokens ≡ first ∷ more
  pub begins : role_of first.kind ≡ role.Open
  pub closed : IsClosed more rest

-- an attribute's word stands before the group
pub record IsAttribute (tokens rest : List Token) : Type 0 where
  pub word : Token
  pub more : List Token
  pub is : tokens ≡ word ∷ more
  pub names : role_of word.kind ≡ role.Attribute
  pub group : IsGroup more rest

-- What is left of tokens without their attributes, from the first on. A word with no matched group behind it stays.
pub data IsLeft : List Token → List Token → Type 0 where
  none : IsLeft [] []
  attribute : (tokens rest left : List Token) → IsAttribute tokens rest → IsLeft rest left → IsLeft tokens left
  other : (t : Token) (ts left : List Token) → ((rest : List Token) → IsAttribute (t ∷ ts) rest → ⊥) →
      IsLeft ts left → IsLeft (t ∷ ts) (t ∷ left)

-- A source divides into pieces that mean these file names and tokens, and what is left of the tokens without
-- attributes is what it gives.
pub record Gives (name bytes : Text) (tokens : Tokens) : Type 0 where
  pub division : List Element
  pub divides : Divides true bytes division
  pub all : Tokens
  pub reads : read 0 0 (beginning name) division ≡ Ok all
  pub files : tokens.files ≡ name ∷ all.files
  pub left : IsLeft all.tokens tokens.tokens
