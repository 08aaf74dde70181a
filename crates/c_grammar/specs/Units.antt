-- How initializers (C99 6.7.8), declarations (6.7), statements (6.8) and external definitions (6.9) are spelled, and
-- which units the grammar derives.
use Rattle.std.specs.Prelude.{
  ◌≡◌,
  ◌≤◌,
  ℕ,
  suc,
  max,
  List,
  [],
  ◌∷◌,
  ◌++◌,
  Bool,
  true,
  false,
  ◌||◌,
  not,
  Option,
  Some,
  None,
  map,
}
use Rattle.c_language.specs.declared.token.Token.{Token}
use Rattle.c_language.specs.declared.token.TokenKind.{TokenKind}
use Rattle.c_language.specs.declared.token.TokenKind.TheVariants as kind
use Rattle.c_language.specs.declared.token.Keyword.TheVariants as keyword
use Rattle.c_language.specs.declared.token.Punctuator.{Punctuator}
use Rattle.c_language.specs.declared.token.Punctuator.TheVariants as mark
use Rattle.c_language.specs.declared.expr.StorageClass.TheVariants as class
use Rattle.c_language.specs.declared.expr.Expr.{Expr}
use Rattle.c_language.specs.declared.expr.Specifier.{Specifier}
use Rattle.c_language.specs.declared.expr.Specifier.TheVariants as specifier
use Rattle.c_language.specs.declared.expr.Declarator.{Declarator}
use Rattle.c_language.specs.declared.unit.Designator.{Designator}
use Rattle.c_language.specs.declared.unit.Designator.TheVariants as designator
use Rattle.c_language.specs.declared.unit.Initializer.{Initializer, fold-Initializer}
use Rattle.c_language.specs.declared.unit.InitializerItem.{InitializerItem, fold-InitializerItem}
use Rattle.c_language.specs.declared.unit.Initializer.TheOpen as initial
use Rattle.c_language.specs.declared.unit.InitDeclarator.{InitDeclarator}
use Rattle.c_language.specs.declared.unit.Declaration.{Declaration}
use Rattle.c_language.specs.declared.unit.ForStart.{ForStart}
use Rattle.c_language.specs.declared.unit.ForStart.TheVariants as start
use Rattle.c_language.specs.declared.unit.Stmt.{Stmt, fold-Stmt}
use Rattle.c_language.specs.declared.unit.Stmt.TheOpen as stmt
use Rattle.c_language.specs.declared.unit.Body.{Body}
use Rattle.c_language.specs.declared.unit.Body.TheVariants as body
use Rattle.c_language.specs.declared.unit.External.{External}
use Rattle.c_language.specs.declared.unit.External.TheVariants as external
use Rattle.c_grammar.specs.declared.declarator_place.DeclaratorPlace.TheVariants as place
use Rattle.c_grammar.specs.Parts.{
  Name,
  Scope,
  Part,
  takes,
  takes_at,
  at_most,
  holds,
  declares,
  opens,
  closes,
  forgets,
  unless,
  State,
  Spans,
  entered_function,
}
use Rattle.c_grammar.specs.Grammar.{
  Shape,
  Piece,
  Form,
  shape,
  form,
  all_specified,
  specification,
  highest_specifier,
  highest,
  listed,
  comma_if,
  of_rank,
  takes_mark,
  takes_mark_at,
  takes_keyword_at,
  is_named,
  in_parens,
  more_literals,
}

-- ---- initializers

abbrev pub designator_piece : Designator → Piece
designator_piece (designator.Member at member) =
    record { parts = takes_mark_at at mark.Dot ∷ takes (kind.Identifier member) ∷ []; height = 0 }
designator_piece (designator.Element at index) =
    record {
      parts = takes_mark_at at mark.LeftBracket ∷ (of_rank 14 (shape index) ++ takes_mark mark.RightBracket ∷ []);
      height = (shape index).height;
    }

abbrev pub joined_designators : List Designator → List Part
joined_designators [] = []
joined_designators (d ∷ ds) = (designator_piece d).parts ++ joined_designators ds

-- `=` stands exactly where a designator does
abbrev pub designation : List Designator → List Part
designation [] = []
designation (d ∷ ds) = joined_designators (d ∷ ds) ++ takes_mark mark.Equal ∷ []

-- a braced list's items, with commas between them, and maybe one behind the last
abbrev pub items_parts : List Piece → Bool → List Part
items_parts [] trailing = holds (not trailing) ∷ []
items_parts (x ∷ xs) trailing = listed (x ∷ xs) ++ comma_if trailing

abbrev pub initialized : initial.Initializer-F Piece Piece → Piece
initialized (initial.Value value) = record { parts = of_rank 15 (shape value); height = suc (shape value).height }
initialized (initial.List at items trailing) =
    record {
      parts = takes_mark_at at mark.LeftBrace ∷ (items_parts items trailing ++ takes_mark mark.RightBrace ∷ []);
      height = suc (highest items);
    }

abbrev pub initialized_item : initial.InitializerItem-F Piece Piece → Piece
initialized_item x = record {
  parts = designation x.designators ++ x.value.parts;
  height = max (highest (map designator_piece x.designators)) x.value.height;
}

unfoldable pub initializer_of : Initializer → Piece
initializer_of x = fold-Initializer Piece Piece initialized initialized_item x

unfoldable pub item_of : InitializerItem → Piece
item_of x = fold-InitializerItem Piece Piece initialized initialized_item x

-- ---- declarations

abbrev pub is_typedef_word : Specifier → Bool
is_typedef_word (specifier.Storage at class.Typedef) = true
is_typedef_word _ = false

-- whether a declaration with these specifiers declares typedef names (6.7.7)
abbrev pub makes_types : List Specifier → Bool
makes_types [] = false
makes_types (x ∷ xs) = is_typedef_word x || makes_types xs

abbrev pub name_of : Form → Name
name_of d = elim d.name as (λ _. Name) [ None ↦ [] | Some name ↦ name ]

-- a declarator of a declaration; its name is in scope from its end on (6.2.1)
abbrev pub declaring_parts : Bool → Declarator → List Part
declaring_parts is_type d =
    forgets ∷ holds (is_named (form d))
    ∷ ((form d).parts place.Declaration ++ declares (name_of (form d)) is_type ∷ [])

abbrev pub assembler_parts : List (List ℕ) → List Part
assembler_parts [] = []
assembler_parts (p ∷ ps) =
    takes (kind.Keyword keyword.Asm) ∷ in_parens (takes (kind.StringLiteral p) ∷ more_literals ps)

abbrev pub initializer_parts : Option Initializer → List Part
initializer_parts None = []
initializer_parts (Some x) = takes_mark mark.Equal ∷ (initializer_of x).parts

abbrev pub initializer_height : Option Initializer → ℕ
initializer_height None = 0
initializer_height (Some x) = (initializer_of x).height

-- what follows the declarator
abbrev pub rest_parts : InitDeclarator → List Part
rest_parts d = assembler_parts d.assembler_name ++ initializer_parts d.initializer

abbrev pub init_piece : Bool → InitDeclarator → Piece
init_piece is_type d =
    record {
      parts = declaring_parts is_type d.declarator ++ rest_parts d;
      height = max (form d.declarator).height (initializer_height d.initializer);
    }

abbrev pub init_list_parts : List Piece → List Part
init_list_parts [] = []
init_list_parts (x ∷ xs) = listed (x ∷ xs)

abbrev pub init_pieces : Declaration → List Piece
init_pieces d = map (init_piece (makes_types d.specifiers)) d.declarators

unfoldable pub declaration_of : Declaration → Piece
declaration_of d = record {
  parts =
      specification (all_specified d.specifiers)
      ++ (init_list_parts (init_pieces d) ++ takes_mark mark.Semicolon ∷ []);
  height = max (highest_specifier (all_specified d.specifiers)) (highest (init_pieces d));
}

-- ---- statements

abbrev pub joined_shapes : List Shape → List Part
joined_shapes [] = []
joined_shapes (x ∷ xs) = x.parts ++ joined_shapes xs

abbrev pub highest_stmt : List Shape → ℕ
highest_stmt [] = 0
highest_stmt (x ∷ xs) = max x.height (highest_stmt xs)

abbrev pub value_parts : Option Expr → List Part
value_parts None = []
value_parts (Some e) = (shape e).parts

abbrev pub value_height : Option Expr → ℕ
value_height None = 0
value_height (Some e) = (shape e).height

-- a statement, which has rank 0; a declaration has rank 1
abbrev pub statement : ℕ → List Part → Shape
statement below parts = record { parts = parts; rank = 0; height = suc below }

abbrev pub only_statement : Shape → List Part
only_statement x = at_most x.rank 0 ∷ x.parts

-- a substatement is a block (6.8.4, 6.8.5)
abbrev pub substatement : Shape → List Part
substatement x = opens ∷ (only_statement x ++ closes ∷ [])

-- an `else` belongs to the nearest `if` (6.8.4.1)
abbrev pub else_parts : Option Shape → List Part
else_parts None = unless keyword.Else ∷ []
else_parts (Some x) = takes (kind.Keyword keyword.Else) ∷ substatement x

abbrev pub else_height : Option Shape → ℕ
else_height None = 0
else_height (Some x) = x.height

abbrev pub for_start_parts : ForStart → List Part
for_start_parts (start.Value value) = value_parts value ++ takes_mark mark.Semicolon ∷ []
for_start_parts (start.Declared declaration) = (declaration_of declaration).parts

abbrev pub for_start_height : ForStart → ℕ
for_start_height (start.Value value) = value_height value
for_start_height (start.Declared declaration) = (declaration_of declaration).height

-- a selection or iteration statement is a block (6.8.4, 6.8.5)
abbrev pub as_block : List Part → List Part
as_block ps = opens ∷ (ps ++ closes ∷ [])

abbrev pub condition_parts : Expr → List Part
condition_parts e = in_parens (shape e).parts

abbrev pub stated : stmt.Stmt-F Shape → Shape
stated (stmt.Block at items) =
    statement (highest_stmt items)
    (takes_mark_at at mark.LeftBrace ∷ opens ∷ (joined_shapes items ++ closes ∷ takes_mark mark.RightBrace ∷ []))
stated (stmt.Declared declaration) =
    record { parts = (declaration_of declaration).parts; rank = 1; height = suc (declaration_of declaration).height }
stated (stmt.Value at value) =
    statement (value_height value) (value_parts value ++ takes_mark_at at mark.Semicolon ∷ [])
stated (stmt.Label at name body) =
    statement body.height (takes_at at (kind.Identifier name) ∷ takes_mark mark.Colon ∷ only_statement body)
stated (stmt.Case at value body) =
    statement (max (shape value).height body.height)
    (takes_keyword_at at keyword.Case ∷ (of_rank 14 (shape value) ++ takes_mark mark.Colon ∷ only_statement body))
stated (stmt.Default at body) =
    statement body.height (takes_keyword_at at keyword.Default ∷ takes_mark mark.Colon ∷ only_statement body)
stated (stmt.If at condition positive negative) =
    statement (max (shape condition).height (max positive.height (else_height negative)))
    (takes_keyword_at at keyword.If
    ∷ as_block (condition_parts condition ++ (substatement positive ++ else_parts negative)))
stated (stmt.Switch at value body) =
    statement (max (shape value).height body.height)
    (takes_keyword_at at keyword.Switch ∷ as_block (condition_parts value ++ substatement body))
stated (stmt.While at condition body) =
    statement (max (shape condition).height body.height)
    (takes_keyword_at at keyword.While ∷ as_block (condition_parts condition ++ substatement body))
stated (stmt.Do at body condition) =
    statement (max body.height (shape condition).height)
    (takes_keyword_at at keyword.Do
    ∷ as_block (substatement body
    ++ takes (kind.Keyword keyword.While) ∷ (condition_parts condition ++ takes_mark mark.Semicolon ∷ [])))
stated (stmt.For at start condition step body) =
    statement (max (for_start_height start) (max (value_height condition) (max (value_height step) body.height)))
    (takes_keyword_at at keyword.For
    ∷ as_block (takes_mark mark.LeftParen ∷ (for_start_parts start
    ++ (value_parts condition ++ takes_mark mark.Semicolon
    ∷ (value_parts step ++ takes_mark mark.RightParen ∷ substatement body)))))
stated (stmt.Goto at name) =
    statement 0 (takes_keyword_at at keyword.Goto ∷ takes (kind.Identifier name) ∷ takes_mark mark.Semicolon ∷ [])
stated (stmt.Continue at) = statement 0 (takes_keyword_at at keyword.Continue ∷ takes_mark mark.Semicolon ∷ [])
stated (stmt.Break at) = statement 0 (takes_keyword_at at keyword.Break ∷ takes_mark mark.Semicolon ∷ [])
stated (stmt.Return at value) =
    statement (value_height value)
    (takes_keyword_at at keyword.Return ∷ (value_parts value ++ takes_mark mark.Semicolon ∷ []))

unfoldable pub stmt_shape : Stmt → Shape
stmt_shape x = fold-Stmt Shape stated x

-- the grammar derives this statement, or at rank 1 a declaration too, between these states
pub record DerivesStmt (limit rank : ℕ) (s : State) (x : Stmt) (z : State) : Type 0 where
  pub spans : Spans (stmt_shape x).parts s z
  pub fits : (stmt_shape x).rank ≤ rank
  pub low : (stmt_shape x).height ≤ limit

-- ---- functions and units

-- the greatest height of a block, a declaration or a declarator
abbrev pub limit : ℕ
limit = 256

-- the bracket that closes what a token opens
abbrev pub closer : TokenKind → Option Punctuator
closer (kind.Punctuator mark.LeftParen) = Some mark.RightParen
closer (kind.Punctuator mark.LeftBracket) = Some mark.RightBracket
closer (kind.Punctuator mark.LeftBrace) = Some mark.RightBrace
closer _ = None

abbrev pub closing : TokenKind → Bool
closing (kind.Punctuator mark.RightParen) = true
closing (kind.Punctuator mark.RightBracket) = true
closing (kind.Punctuator mark.RightBrace) = true
closing _ = false

-- tokens whose brackets match
pub data Matched : List Token → Type 0 where
  none : Matched []
  plain : (t : Token) (ts : List Token) → closer t.kind ≡ None → closing t.kind ≡ false → Matched ts → Matched (t ∷ ts)
  group : (o c : Token) (m : Punctuator) (inner ts : List Token) → closer o.kind ≡ Some m → c.kind ≡ kind.Punctuator
      m → Matched inner → Matched ts → Matched (o ∷ (inner ++ c ∷ ts))

-- these tokens as a whole are a block in this scope
abbrev pub IsBlock : List Token → Scope → Stmt → Type 0
IsBlock tokens scope x = (after : Scope) × DerivesStmt limit 0 (tokens, scope) x ([], after)

-- a body is unread only where no block is derived
abbrev pub Spelled : List Token → Scope → Token → Body → Type 0
Spelled tokens scope first (body.Read block) = IsBlock tokens scope block
Spelled tokens scope first (body.Unread at) = (first.start ≡ at) × ((x : Stmt) → IsBlock tokens scope x → ⊥)

-- A brace group is a function's body: a block, where it is one, in which the parameters are in scope. What it declares
-- isn't in scope behind it.
pub record DerivesBody (s : State) (b : Body) (z : State) : Type 0 where
  pub first : Token
  pub inner : List Token
  pub last : Token
  pub is : s.0 ≡ first ∷ (inner ++ last ∷ z.0)
  pub starts : first.kind ≡ kind.Punctuator mark.LeftBrace
  pub ends : last.kind ≡ kind.Punctuator mark.RightBrace
  pub matched : Matched inner
  pub spelled : Spelled (first ∷ (inner ++ last ∷ [])) (entered_function s.1) first b
  pub scope : z.1 ≡ s.1

-- a function definition
pub record DerivesFunction (xs : List Specifier) (d : Declarator) (b : Body) (s z : State) : Type 0 where
  pub behind : State
  pub spans : Spans (specification (all_specified xs) ++ declaring_parts (makes_types xs) d) s behind
  pub low : max (highest_specifier (all_specified xs)) (form d).height ≤ limit
  pub body : DerivesBody behind b z

abbrev pub DerivesExternal : State → External → State → Type 0
DerivesExternal s (external.Function xs d b) z = DerivesFunction xs d b s z
DerivesExternal s (external.Declared declaration) z =
    Spans (declaration_of declaration).parts s z × ((declaration_of declaration).height ≤ limit)
DerivesExternal s (external.Empty at) z = Spans (takes_mark_at at mark.Semicolon ∷ []) s z

abbrev pub DerivesExternals : State → List External → Type 0
DerivesExternals s [] = s.0 ≡ []
DerivesExternals s (x ∷ xs) = (m : State) × DerivesExternal s x m × DerivesExternals m xs

-- before the first declaration
abbrev pub file_scope : Scope
file_scope = record { frames = [] ∷ []; parameters = [] }

-- the grammar derives these external declarations from the tokens of a source
abbrev pub derives : List Token → List External → Type 0
derives tokens xs = DerivesExternals (tokens, file_scope) xs
