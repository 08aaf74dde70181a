-- How expressions (C99 6.5), the types that stand in them and declarators (6.7) are spelled.
use Rattle.std.specs.Prelude.{
  ◌≡◌,
  ◌≤◌,
  ℕ,
  suc,
  max,
  List,
  [],
  ◌∷◌,
  ◌++◌,
  Bool,
  true,
  false,
  ◌||◌,
  not,
  Option,
  Some,
  None,
  map,
}
use Rattle.c_language.specs.declared.token.Token.{Token}
use Rattle.c_language.specs.declared.token.TokenKind.{TokenKind}
use Rattle.c_language.specs.declared.token.TokenKind.TheVariants as kind
use Rattle.c_language.specs.declared.token.Keyword.{Keyword}
use Rattle.c_language.specs.declared.token.Keyword.TheVariants as keyword
use Rattle.c_language.specs.declared.token.Punctuator.{Punctuator}
use Rattle.c_language.specs.declared.token.Punctuator.TheVariants as mark
use Rattle.c_language.specs.declared.expr.BinaryOperator.{BinaryOperator}
use Rattle.c_language.specs.declared.expr.Qualifier.{Qualifier}
use Rattle.c_language.specs.declared.expr.ArrayWord.{ArrayWord}
use Rattle.c_language.specs.declared.expr.Expr.{Expr}
use Rattle.c_language.specs.declared.expr.TypeName.{TypeName}
use Rattle.c_language.specs.declared.expr.Specifier.{Specifier}
use Rattle.c_language.specs.declared.expr.MemberDeclaration.{MemberDeclaration}
use Rattle.c_language.specs.declared.expr.Field.{Field}
use Rattle.c_language.specs.declared.expr.Enumerator.{Enumerator}
use Rattle.c_language.specs.declared.expr.Declarator.{Declarator}
use Rattle.c_language.specs.declared.expr.Parameter.{Parameter}
use Rattle.c_language.specs.declared.expr.Declarator.TheOpen as open_
use Rattle.c_language.specs.declared.expr.TagName.{TagName}
use Rattle.c_language.specs.Folds.{
  Carrier,
  Algebra,
  DeclaratorLayer,
  ExprLayer,
  FieldLayer,
  SpecifierLayer,
  EnumeratorLayer,
  MemberDeclarationLayer,
  ParameterLayer,
  TypeNameLayer,
  fold_declarator,
  fold_expr,
  fold_field,
  fold_specifier,
  fold_enumerator,
  fold_member,
  fold_parameter,
  fold_type_name,
}
use Rattle.c_grammar.specs.declared.declarator_place.DeclaratorPlace.{DeclaratorPlace}
use Rattle.c_grammar.specs.declared.declarator_place.DeclaratorPlace.TheVariants as place
use Rattle.c_grammar.specs.declared.type_words.TypeKind.{TypeKind}
use Rattle.c_grammar.specs.declared.type_words.TypeKind.TheVariants as type_kind
use Rattle.c_grammar.specs.TypeWords.{are_allowed, is_type}
use Rattle.c_grammar.specs.Spelling.{
  unary_mark,
  operand_rank,
  postfix_mark,
  binary_mark,
  rank_of,
  assign_mark,
  class_keyword,
  qualifier_keyword,
  word_keyword,
  aggregate_keyword,
  array_word_keyword,
}
use Rattle.c_grammar.specs.Parts.{
  Name,
  Part,
  takes,
  takes_at,
  at_most,
  holds,
  typedef_name,
  ordinary,
  declares,
  opens,
  closes,
  keeps,
  no_type,
  State,
  Spans,
}

-- ---- what the grammar says of a tree

-- of an expression: its parts, how loosely it binds, its height
pub record Shape : Type 0 where
  pub parts : List Part
  pub rank : ℕ
  pub height : ℕ

-- of what has no height of its own: a type name, a member declaration, a field, an enumerator, a parameter
pub record Piece : Type 0 where
  pub parts : List Part
  pub height : ℕ

-- of a specifier: its parts, where a type was read before it and where none was; its height; what it says of the type
pub record Specified : Type 0 where
  pub parts : Bool → List Part
  pub height : ℕ
  pub kind : TypeKind

-- Of a declarator: its parts where it stands at such a place. Name, no name and `( )` have rank 0, `[ ]` and
-- parameters 1, `*` 2. `derived`: it says more of the name than that it is declared.
pub record Form : Type 0 where
  pub parts : DeclaratorPlace → List Part
  pub rank : ℕ
  pub height : ℕ
  pub name : Option Name
  pub omitted : Bool
  pub derived : Bool

-- of each type of tree
abbrev pub Said : Carrier
Said = record {
  declarator = Form;
  expr = Shape;
  field = Piece;
  specifier = Specified;
  enumerator = Piece;
  member = Piece;
  parameter = Piece;
  type_name = Piece;
}

-- ---- lists

abbrev pub takes_mark : Punctuator → Part
takes_mark m = takes (kind.Punctuator m)

abbrev pub takes_mark_at : ℕ → Punctuator → Part
takes_mark_at at m = takes_at at (kind.Punctuator m)

abbrev pub takes_keyword_at : ℕ → Keyword → Part
takes_keyword_at at k = takes_at at (kind.Keyword k)

abbrev pub keyword_parts : List Keyword → List Part
keyword_parts [] = []
keyword_parts (k ∷ ks) = takes (kind.Keyword k) ∷ keyword_parts ks

abbrev pub joined : List Piece → List Part
joined [] = []
joined (x ∷ xs) = x.parts ++ joined xs

abbrev pub later : List Piece → List Part
later [] = []
later (x ∷ xs) = takes_mark mark.Comma ∷ (x.parts ++ later xs)

-- one at least, with commas between them
abbrev pub listed : List Piece → List Part
listed [] = holds false ∷ []
listed (x ∷ xs) = x.parts ++ later xs

abbrev pub highest : List Piece → ℕ
highest [] = 0
highest (x ∷ xs) = max x.height (highest xs)

-- a comma, or nothing
abbrev pub comma_if : Bool → List Part
comma_if true = takes_mark mark.Comma ∷ []
comma_if false = []

-- an expression that binds at most so loosely
abbrev pub of_rank : ℕ → Shape → List Part
of_rank rank e = at_most e.rank rank ∷ e.parts

abbrev pub piece_of_rank : ℕ → Shape → Piece
piece_of_rank rank e = record { parts = of_rank rank e; height = e.height }

-- the arguments of a call
abbrev pub argument_parts : List Shape → List Part
argument_parts [] = []
argument_parts (x ∷ xs) = listed (map (piece_of_rank 15) (x ∷ xs))

abbrev pub highest_shape : List Shape → ℕ
highest_shape xs = highest (map (piece_of_rank 15) xs)

-- ---- declaration specifiers

-- a typedef name is a specifier only where no type stands before it
abbrev pub specifiers_from : Bool → List Specified → List Part
specifiers_from typed [] = []
specifiers_from typed (x ∷ xs) = x.parts typed ++ specifiers_from (typed || is_type x.kind) xs

-- specifiers that name one type
abbrev pub specification : List Specified → List Part
specification xs = specifiers_from false xs ++ holds (are_allowed (map (λ x. x.kind) xs)) ∷ []

abbrev pub highest_specifier : List Specified → ℕ
highest_specifier [] = 0
highest_specifier (x ∷ xs) = max x.height (highest_specifier xs)

-- a tag, by the offset of its own token
abbrev pub takes_tag : TagName → Part
takes_tag tag = takes_at tag.at (kind.Identifier tag.name)

abbrev pub tag_parts : Option TagName → List Part
tag_parts None = []
tag_parts (Some tag) = takes_tag tag ∷ []

abbrev pub braced : List Part → List Part
braced ps = takes_mark mark.LeftBrace ∷ (ps ++ takes_mark mark.RightBrace ∷ [])

abbrev pub word_of : ℕ → Keyword → TypeKind → Specified
word_of at k says = record { parts = λ typed. takes_keyword_at at k ∷ []; height = 1; kind = says }

abbrev pub specified : SpecifierLayer Said → Specified
specified (open_.Storage at class) = word_of at (class_keyword class) type_kind.NoType
specified (open_.Qualifier at qualifier) = word_of at (qualifier_keyword qualifier) type_kind.NoType
specified (open_.Inline at) = word_of at keyword.Inline type_kind.NoType
specified (open_.Word at word) = word_of at (word_keyword word) (type_kind.Word word)
specified (open_.Typedef at name) =
    record {
      parts = λ typed. holds (not typed) ∷ typedef_name name ∷ takes_at at (kind.Identifier name) ∷ [];
      height = 1;
      kind = type_kind.Whole;
    }
specified (open_.Tag at aggregate tag) =
    record {
      parts = λ typed. takes_keyword_at at (aggregate_keyword aggregate) ∷ takes_tag tag ∷ [];
      height = 1;
      kind = type_kind.Whole;
    }
specified (open_.Aggregate at aggregate tag members) =
    record {
      parts = λ typed. takes_keyword_at at (aggregate_keyword aggregate) ∷ (tag_parts tag ++ braced (joined members));
      height = suc (highest members);
      kind = type_kind.Whole;
    }
specified (open_.EnumTag at tag) =
    record {
      parts = λ typed. takes_keyword_at at keyword.Enum ∷ takes_tag tag ∷ [];
      height = 1;
      kind = type_kind.Whole;
    }
specified (open_.Enumeration at tag enumerators trailing) =
    record {
      parts =
          λ typed. takes_keyword_at at keyword.Enum ∷ (tag_parts tag ++ braced (listed enumerators ++
          comma_if trailing));
      height = suc (highest enumerators);
      kind = type_kind.Whole;
    }

abbrev pub value_parts : Option Shape → List Part
value_parts None = []
value_parts (Some e) = takes_mark mark.Equal ∷ of_rank 14 e

abbrev pub height_of : Option Shape → ℕ
height_of None = 0
height_of (Some e) = e.height

-- an enumeration constant is in scope behind its enumerator (6.2.1)
abbrev pub enumerator_piece : EnumeratorLayer Said → Piece
enumerator_piece x =
    record {
      parts = takes_at x.at (kind.Identifier x.name) ∷ (value_parts x.value ++ declares x.name false ∷ []);
      height = height_of x.value;
    }

-- ---- declarators

abbrev pub is_named : Form → Bool
is_named d = elim d.name as (λ _. Bool) [ None ↦ false | Some name ↦ true ]

-- whether a declarator may be without a name at such a place
abbrev pub may_omit : DeclaratorPlace → Bool
may_omit place.Parameter = true
may_omit place.TypeName = true
may_omit _ = false

abbrev pub qualifier_parts : List Qualifier → List Part
qualifier_parts qualifiers = keyword_parts (map qualifier_keyword qualifiers)

abbrev pub array_word_parts : List ArrayWord → List Part
array_word_parts words = keyword_parts (map array_word_keyword words)

abbrev pub length_parts : Option Shape → List Part
length_parts None = []
length_parts (Some e) = of_rank 15 e

abbrev pub variadic_parts : Bool → List Part
variadic_parts true = takes_mark mark.Comma ∷ takes_mark mark.Ellipsis ∷ []
variadic_parts false = []

abbrev pub parameter_parts : List Piece → Bool → List Part
parameter_parts [] variadic = holds (not variadic) ∷ []
parameter_parts (x ∷ xs) variadic = listed (x ∷ xs) ++ variadic_parts variadic

-- In a parameter, a name that can be a typedef name is that name, and so begins a parameter (6.7.5.3); in a type
-- name, `()` is a function without prototype (6.7.6).
abbrev pub group_parts : DeclaratorPlace → List Part
group_parts place.Parameter = no_type ∷ []
group_parts place.TypeName = no_type ∷ []
group_parts _ = []

-- the parameters of the function that a declaration declares are kept for its body
abbrev pub closing_parts : DeclaratorPlace → Bool → Part
closing_parts place.Declaration false = keeps
closing_parts _ _ = closes

abbrev pub formed : DeclaratorLayer Said → Form
formed (open_.Name at name) =
    record {
      parts = λ where_. takes_at at (kind.Identifier name) ∷ [];
      rank = 0;
      height = 1;
      name = Some name;
      omitted = false;
      derived = false;
    }
formed open_.Omitted =
    record { parts = λ where_. []; rank = 0; height = 1; name = None; omitted = true; derived = false }
formed (open_.Grouped at inner) =
    record {
      parts =
          λ where_. takes_mark_at at mark.LeftParen ∷ (group_parts where_ ++ holds (not inner.omitted) ∷
          (inner.parts where_ ++ takes_mark mark.RightParen ∷ []));
      rank = 0;
      height = suc inner.height;
      name = inner.name;
      omitted = false;
      derived = inner.derived;
    }
formed (open_.Pointer at qualifiers inner) =
    record {
      parts = λ where_. takes_mark_at at mark.Star ∷ (qualifier_parts qualifiers ++ inner.parts where_);
      rank = 2;
      height = suc inner.height;
      name = inner.name;
      omitted = false;
      derived = true;
    }
formed (open_.Array at inner words length) =
    record {
      parts =
          λ where_. at_most inner.rank 1 ∷ (inner.parts where_ ++ takes_mark_at at mark.LeftBracket ∷
          (array_word_parts words ++ (length_parts length ++ takes_mark mark.RightBracket ∷ [])));
      rank = 1;
      height = suc (max inner.height (height_of length));
      name = inner.name;
      omitted = false;
      derived = true;
    }
formed (open_.Function at inner parameters variadic) =
    record {
      parts =
          λ where_. at_most inner.rank 1 ∷ (inner.parts where_ ++ takes_mark_at at mark.LeftParen ∷ opens ∷
          (parameter_parts parameters variadic ++ closing_parts where_ inner.derived
          ∷ takes_mark mark.RightParen ∷ []));
      rank = 1;
      height = suc (max inner.height (highest parameters));
      name = inner.name;
      omitted = false;
      derived = true;
    }

abbrev pub declaring : Option Name → Bool → List Part
declaring None is_type = []
declaring (Some name) is_type = declares name is_type ∷ []

-- a parameter declares its name
abbrev pub parameter_piece : ParameterLayer Said → Piece
parameter_piece x = record {
  parts = specification x.specifiers ++ (x.declarator.parts place.Parameter ++ declaring x.declarator.name false);
  height = max (highest_specifier x.specifiers) x.declarator.height;
}

abbrev pub type_name_piece : TypeNameLayer Said → Piece
type_name_piece x = record {
  parts = specification x.specifiers ++ holds (not (is_named x.declarator)) ∷ x.declarator.parts place.TypeName;
  height = max (highest_specifier x.specifiers) x.declarator.height;
}

-- a bit-field's name, where it has one
abbrev pub field_name_parts : Option Form → List Part
field_name_parts None = []
field_name_parts (Some d) = holds (is_named d) ∷ d.parts place.Member

abbrev pub form_height : Option Form → ℕ
form_height None = 0
form_height (Some d) = d.height

abbrev pub field_piece : FieldLayer Said → Piece
field_piece (open_.Plain declarator) =
    record { parts = field_name_parts (Some declarator); height = declarator.height }
field_piece (open_.Bits at declarator width) =
    record {
      parts = field_name_parts declarator ++ takes_mark_at at mark.Colon ∷ of_rank 14 width;
      height = max (form_height declarator) width.height;
    }

abbrev pub fields_parts : List Piece → List Part
fields_parts [] = []
fields_parts (x ∷ xs) = listed (x ∷ xs)

abbrev pub member_piece : MemberDeclarationLayer Said → Piece
member_piece x = record {
  parts = specification x.specifiers ++ (fields_parts x.fields ++ takes_mark mark.Semicolon ∷ []);
  height = max (highest_specifier x.specifiers) (highest x.fields);
}

-- ---- expressions

abbrev pub leaf : List Part → Shape
leaf parts = record { parts = parts; rank = 0; height = 1 }

abbrev pub node : ℕ → ℕ → List Part → Shape
node rank below parts = record { parts = parts; rank = rank; height = suc below }

-- string literals after the first
abbrev pub more_literals : List (List ℕ) → List Part
more_literals [] = []
more_literals (p ∷ ps) = takes (kind.StringLiteral p) ∷ more_literals ps

abbrev pub literal_parts : ℕ → List (List ℕ) → List Part
literal_parts at [] = holds false ∷ []
literal_parts at (p ∷ ps) = takes_at at (kind.StringLiteral p) ∷ more_literals ps

abbrev pub assign_parts : ℕ → Option BinaryOperator → List Part
assign_parts at operator = elim (assign_mark operator) as (λ _. List Part) [
  | None ↦ holds false ∷ []
  | Some m ↦
      takes_mark_at at m ∷ []
]

abbrev pub in_parens : List Part → List Part
in_parens ps = takes_mark mark.LeftParen ∷ (ps ++ takes_mark mark.RightParen ∷ [])

abbrev pub spelled : ExprLayer Said → Shape
spelled (open_.Integer at constant) = leaf (takes_at at (kind.Integer constant) ∷ [])
spelled (open_.Floating at) = leaf (takes_at at kind.Floating ∷ [])
spelled (open_.Character at value) = leaf (takes_at at (kind.Character value) ∷ [])
spelled (open_.StringLiteral at pieces) = leaf (literal_parts at pieces)
spelled (open_.FunctionName at) = leaf (takes_at at kind.FunctionName ∷ [])
spelled (open_.Identifier at name) = leaf (ordinary name ∷ takes_at at (kind.Identifier name) ∷ [])
spelled (open_.Parenthesized at inner) =
    node 0 inner.height (takes_mark_at at mark.LeftParen ∷ (inner.parts ++ takes_mark mark.RightParen ∷ []))
spelled (open_.Subscript at array index) =
    node 1 (max array.height index.height)
    (at_most array.rank 1 ∷ (array.parts
    ++ takes_mark_at at mark.LeftBracket ∷ (index.parts ++ takes_mark mark.RightBracket ∷ [])))
spelled (open_.Call at callee arguments) =
    node 1 (max callee.height (highest_shape arguments))
    (at_most callee.rank 1 ∷ (callee.parts
    ++ takes_mark_at at mark.LeftParen ∷ (argument_parts arguments ++ takes_mark mark.RightParen ∷ [])))
spelled (open_.Member at object member) =
    node 1 object.height
    (at_most object.rank 1 ∷ (object.parts ++ takes_mark_at at mark.Dot ∷ takes (kind.Identifier member) ∷ []))
spelled (open_.Arrow at pointer member) =
    node 1 pointer.height
    (at_most pointer.rank 1 ∷ (pointer.parts ++ takes_mark_at at mark.Arrow ∷ takes (kind.Identifier member) ∷ []))
spelled (open_.Postfix at operator operand) =
    node 1 operand.height
    (at_most operand.rank 1 ∷ (operand.parts ++ takes_mark_at at (postfix_mark operator) ∷ []))
spelled (open_.Unary at operator operand) =
    node 2 operand.height
    (at_most operand.rank (operand_rank operator) ∷ takes_mark_at at (unary_mark operator) ∷ operand.parts)
spelled (open_.SizeofExpr at operand) =
    node 2 operand.height (at_most operand.rank 2 ∷ takes_keyword_at at keyword.Sizeof ∷ operand.parts)
spelled (open_.SizeofType at type_name) =
    node 2 type_name.height (takes_keyword_at at keyword.Sizeof ∷ in_parens type_name.parts)
spelled (open_.Cast at type_name operand) =
    node 3 (max type_name.height operand.height)
    (at_most operand.rank 3
    ∷ takes_mark_at at mark.LeftParen ∷ (type_name.parts ++ takes_mark mark.RightParen ∷ operand.parts))
spelled (open_.Binary at operator left right) =
    node (rank_of operator) (max left.height right.height)
    (at_most left.rank (rank_of operator) ∷ at_most (suc right.rank) (rank_of operator)
    ∷ (left.parts ++ takes_mark_at at (binary_mark operator) ∷ right.parts))
spelled (open_.Conditional at condition positive negative) =
    node 14 (max condition.height (max positive.height negative.height))
    (at_most condition.rank 13 ∷ at_most negative.rank 14
    ∷ (condition.parts ++ takes_mark_at at mark.Question ∷ (positive.parts ++ takes_mark mark.Colon ∷ negative.parts)))
spelled (open_.Assign at operator target value) =
    node 15 (max target.height value.height)
    (at_most target.rank 2 ∷ at_most value.rank 15 ∷ (target.parts ++ (assign_parts at operator ++ value.parts)))
spelled (open_.Comma at left right) =
    node 16 (max left.height right.height)
    (at_most right.rank 15 ∷ (left.parts ++ takes_mark_at at mark.Comma ∷ right.parts))

-- ---- trees

abbrev pub grammar : Algebra Said
grammar = record {
  declarator = formed;
  expr = spelled;
  field = field_piece;
  specifier = specified;
  enumerator = enumerator_piece;
  member = member_piece;
  parameter = parameter_piece;
  type_name = type_name_piece;
}

unfoldable pub shape : Expr → Shape
shape e = fold_expr grammar e

unfoldable pub form : Declarator → Form
form d = fold_declarator grammar d

unfoldable pub specifier_of : Specifier → Specified
specifier_of x = fold_specifier grammar x

unfoldable pub field_of : Field → Piece
field_of x = fold_field grammar x

unfoldable pub enumerator_of : Enumerator → Piece
enumerator_of x = fold_enumerator grammar x

unfoldable pub member_of : MemberDeclaration → Piece
member_of x = fold_member grammar x

unfoldable pub parameter_of : Parameter → Piece
parameter_of x = fold_parameter grammar x

unfoldable pub type_name_of : TypeName → Piece
type_name_of x = fold_type_name grammar x

-- the specifiers of a declaration
abbrev pub all_specified : List Specifier → List Specified
all_specified xs = map specifier_of xs

-- the grammar derives this expression between these states, by a rule at most this loose, with at most this height
pub record Derives (limit rank : ℕ) (s : State) (e : Expr) (z : State) : Type 0 where
  pub spans : Spans (shape e).parts s z
  pub fits : (shape e).rank ≤ rank
  pub low : (shape e).height ≤ limit

-- it derives this specifier, behind a type or before one
pub record DerivesSpecifier (limit : ℕ) (typed : Bool) (s : State) (x : Specifier) (z : State) : Type 0 where
  pub spans : Spans ((specifier_of x).parts typed) s z
  pub low : (specifier_of x).height ≤ limit

-- whether a declarator has a name where one belongs, and none where none does
abbrev pub fits_place : DeclaratorPlace → Form → Bool
fits_place place.Declaration d = is_named d
fits_place place.Member d = is_named d
fits_place place.Parameter d = true
fits_place place.TypeName d = not (is_named d)

-- it derives this declarator at such a place
pub record DerivesDeclarator (limit : ℕ) (where_ : DeclaratorPlace) (s : State) (d : Declarator) (z : State) : Type 0
  where
    pub spans : Spans ((form d).parts where_) s z
    pub named : fits_place where_ (form d) ≡ true
    pub low : (form d).height ≤ limit

-- a token that stands behind declarators
abbrev pub ends_declarator : TokenKind → Bool
ends_declarator (kind.Punctuator mark.RightParen) = true
ends_declarator (kind.Punctuator mark.LeftBrace) = true
ends_declarator (kind.Punctuator mark.Comma) = true
ends_declarator (kind.Punctuator mark.Semicolon) = true
ends_declarator (kind.Punctuator mark.Colon) = true
ends_declarator (kind.Punctuator mark.Equal) = true
ends_declarator (kind.Keyword keyword.Asm) = true
ends_declarator _ = false

abbrev pub ended_in : List Token → Bool
ended_in [] = true
ended_in (t ∷ rest) = ends_declarator t.kind
