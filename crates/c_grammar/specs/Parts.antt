-- What a tree takes from the tokens, part by part, and the names in scope (C99 6.2.1).
use Rattle.std.specs.Prelude.{◌≡◌, ◌≤◌, ℕ, List, [], ◌∷◌, Bool, true, false, ◌&&◌, not, ◌==◌}
use denote.Enum.Bare.{sameb}
use Rattle.c_language.specs.declared.token.Token.{Token}
use Rattle.c_language.specs.declared.token.TokenKind.{TokenKind}
use Rattle.c_language.specs.declared.token.TokenKind.TheVariants as kind
use Rattle.c_language.specs.declared.token.Keyword.{Keyword}
use Rattle.c_language.specs.declared.token.Keyword.TheVariants as keyword
use Rattle.c_language.specs.declared.token.Punctuator.{Punctuator}
use Rattle.c_language.specs.contracts.token.Keyword.{the_type as keyword_type}
use Rattle.c_language.specs.contracts.token.Punctuator.{the_type as punctuator_type}

-- ---- names in scope

abbrev pub Name : Type 0
Name = List ℕ

-- a declared name, and whether it is a typedef name
pub record Bound : Type 0 where
  pub name : Name
  pub is_type : Bool

-- the names that a block declares, the last first
abbrev pub Frame : Type 0
Frame = List Bound

-- the blocks that are entered, the innermost first; and the parameters of the function whose declarator was read last
pub record Scope : Type 0 where
  pub frames : List Frame
  pub parameters : Frame

abbrev pub same_name : Name → Name → Bool
same_name [] [] = true
same_name (a ∷ as') (b ∷ bs) = (a == b) && same_name as' bs
same_name _ _ = false

abbrev pub or_else : Bool → Bool → Bool → Bool
or_else true a b = a
or_else false a b = b

abbrev pub is_type_in : Name → Frame → Bool → Bool
is_type_in name [] outer = outer
is_type_in name (b ∷ bs) outer = or_else (same_name name b.name) b.is_type (is_type_in name bs outer)

abbrev pub is_type_among : Name → List Frame → Bool
is_type_among name [] = false
is_type_among name (f ∷ fs) = is_type_in name f (is_type_among name fs)

-- whether the innermost declaration of a name makes it a typedef name
unfoldable pub is_typedef : Name → Scope → Bool
is_typedef name scope = is_type_among name scope.frames

abbrev pub declared_in : Bound → List Frame → List Frame
declared_in b [] = []
declared_in b (f ∷ fs) = (b ∷ f) ∷ fs

abbrev pub innermost : List Frame → Frame
innermost [] = []
innermost (f ∷ fs) = f

abbrev pub outer : List Frame → List Frame
outer [] = []
outer (f ∷ fs) = fs

-- a name is declared in the innermost block
unfoldable pub declared : Name → Bool → Scope → Scope
declared name is_type scope =
    record scope { frames = declared_in (record { name = name; is_type = is_type }) scope.frames }

-- a block is entered
unfoldable pub entered : Scope → Scope
entered scope = record scope { frames = [] ∷ scope.frames }

-- the innermost block is left
unfoldable pub left : Scope → Scope
left scope = record scope { frames = outer scope.frames }

-- the innermost block is left, and its names are the parameters of a function
unfoldable pub left_keeping : Scope → Scope
left_keeping scope = record { frames = outer scope.frames; parameters = innermost scope.frames }

-- no function has parameters
unfoldable pub forgetting : Scope → Scope
forgetting scope = record scope { parameters = [] }

-- the block of a function's parameters is entered
unfoldable pub entered_function : Scope → Scope
entered_function scope = record scope { frames = scope.parameters ∷ scope.frames }

-- ---- how declaration specifiers begin

abbrev pub is_keyword : Keyword → TokenKind → Bool
is_keyword wanted (kind.Keyword k) = sameb keyword_type k wanted
is_keyword wanted _ = false

abbrev pub is_punctuator : Punctuator → TokenKind → Bool
is_punctuator wanted (kind.Punctuator p) = sameb punctuator_type p wanted
is_punctuator wanted _ = false

-- the keywords that begin a declaration specifier
abbrev pub begins_type : Keyword → Bool
begins_type keyword.Break = false
begins_type keyword.Case = false
begins_type keyword.Continue = false
begins_type keyword.Default = false
begins_type keyword.Do = false
begins_type keyword.Else = false
begins_type keyword.For = false
begins_type keyword.Goto = false
begins_type keyword.If = false
begins_type keyword.Return = false
begins_type keyword.Sizeof = false
begins_type keyword.Switch = false
begins_type keyword.While = false
begins_type keyword.Asm = false
begins_type _ = true

-- whether a token begins a declaration specifier; where a type was read, a name doesn't
abbrev pub specifies_by : Scope → Bool → TokenKind → Bool
specifies_by scope typed (kind.Keyword k) = begins_type k
specifies_by scope typed (kind.Identifier name) = not typed && is_typedef name scope
specifies_by scope typed _ = false

abbrev pub specifies_in : Bool → List Token → Scope → Bool
specifies_in typed [] scope = false
specifies_in typed (t ∷ rest) scope = specifies_by scope typed t.kind

-- ---- parts

pub data Part : Type 0 where
  -- this token, wherever it stands
  takes : TokenKind → Part
  -- this token at this offset
  takes_at : ℕ → TokenKind → Part
  -- a rule's side condition
  at_most : ℕ → ℕ → Part
  holds : Bool → Part
  -- the name is, or isn't, a typedef name here
  typedef_name : Name → Part
  ordinary : Name → Part
  -- the name is declared, as a typedef name or not
  declares : Name → Bool → Part
  -- a block is entered, is left, is left as a function's parameters
  opens : Part
  closes : Part
  keeps : Part
  -- no function has parameters yet; the block of a function's parameters is entered
  forgets : Part
  opens_function : Part
  -- no declaration specifier comes next
  no_type : Part
  -- another keyword than this comes next
  unless : Keyword → Part

-- the tokens left, and the scope
abbrev pub State : Type 0
State = List Token × Scope

abbrev pub next_is : Keyword → List Token → Bool
next_is wanted [] = false
next_is wanted (t ∷ rest) = is_keyword wanted t.kind

-- a token, by its offset and its meaning, is the first of these
pub record Takes (at : ℕ) (k : TokenKind) (before after : List Token) : Type 0 where
  pub first : Token
  pub is : before ≡ first ∷ after
  pub start : first.start ≡ at
  pub kind : first.kind ≡ k

-- the parts lead from one state to the other
abbrev pub Spans : List Part → State → State → Type 0
Spans [] s z = s ≡ z
Spans (takes k ∷ ps) s z = (at : ℕ) × (rest : List Token) × Takes at k s.0 rest × Spans ps (rest, s.1) z
Spans (takes_at at k ∷ ps) s z = (rest : List Token) × Takes at k s.0 rest × Spans ps (rest, s.1) z
Spans (at_most m n ∷ ps) s z = (m ≤ n) × Spans ps s z
Spans (holds b ∷ ps) s z = (b ≡ true) × Spans ps s z
Spans (typedef_name name ∷ ps) s z = (is_typedef name s.1 ≡ true) × Spans ps s z
Spans (ordinary name ∷ ps) s z = (is_typedef name s.1 ≡ false) × Spans ps s z
Spans (declares name is_type ∷ ps) s z = Spans ps (s.0, declared name is_type s.1) z
Spans (opens ∷ ps) s z = Spans ps (s.0, entered s.1) z
Spans (closes ∷ ps) s z = Spans ps (s.0, left s.1) z
Spans (keeps ∷ ps) s z = Spans ps (s.0, left_keeping s.1) z
Spans (forgets ∷ ps) s z = Spans ps (s.0, forgetting s.1) z
Spans (opens_function ∷ ps) s z = Spans ps (s.0, entered_function s.1) z
Spans (no_type ∷ ps) s z = (specifies_in false s.0 s.1 ≡ false) × Spans ps s z
Spans (unless k ∷ ps) s z = (next_is k s.0 ≡ false) × Spans ps s z
