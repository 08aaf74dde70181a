-- How trees begin.
use Rattle.std.proofs.Common.{
  ◌≡◌,
  ◌≤◌,
  ◌<◌,
  ℕ,
  List,
  [],
  ◌∷◌,
  ◌++◌,
  length,
  Option,
  Some,
  None,
  Bool,
  true,
  false,
  refl,
  sym,
  ap,
  ◌∙◌,
  subst,
  arith,
  rules,
  ◌⊎◌,
  inl,
  inr,
}
use Rattle.std.specs.Prelude.{map, ◌||◌, not, ◌&&◌}
use Rattle.c_language.specs.declared.token.Token.{Token}
use Rattle.c_language.specs.declared.token.TokenKind.{TokenKind}
use Rattle.c_language.specs.declared.token.TokenKind.TheVariants as kind
use Rattle.c_language.specs.declared.token.Keyword.{Keyword}
use Rattle.c_language.specs.declared.token.Keyword.TheVariants as keyword
use Rattle.c_language.specs.declared.token.Punctuator.{Punctuator}
use Rattle.c_language.specs.declared.token.Punctuator.TheVariants as mark
use Rattle.c_language.specs.declared.expr.UnaryOperator.{UnaryOperator}
use Rattle.c_language.specs.declared.expr.UnaryOperator.TheVariants as unary
use Rattle.c_language.specs.declared.expr.PostfixOperator.{PostfixOperator}
use Rattle.c_language.specs.declared.expr.PostfixOperator.TheVariants as postfix
use Rattle.c_language.specs.declared.expr.BinaryOperator.{BinaryOperator}
use Rattle.c_language.specs.declared.expr.BinaryOperator.TheVariants as binary
use Rattle.c_language.specs.declared.expr.StorageClass.{StorageClass}
use Rattle.c_language.specs.declared.expr.Qualifier.{Qualifier}
use Rattle.c_language.specs.declared.expr.TypeWord.{TypeWord}
use Rattle.c_language.specs.declared.expr.AggregateKind.{AggregateKind}
use Rattle.c_language.specs.declared.expr.Expr.{Expr}
use Rattle.c_language.specs.declared.expr.Specifier.{Specifier}
use Rattle.c_language.specs.declared.expr.Declarator.{Declarator}
use Rattle.c_grammar.specs.declared.declarator_place.DeclaratorPlace.{DeclaratorPlace}
use Rattle.c_grammar.specs.Parts.{
  Name,
  Part,
  takes_at,
  holds,
  typedef_name,
  Scope,
  State,
  Takes,
  Spans,
  is_typedef,
  begins_type,
  specifies_by,
  specifies_in,
}
use Rattle.c_grammar.specs.Spelling.{
  unary_mark,
  postfix_mark,
  binary_mark,
  rank_of,
  class_keyword,
  qualifier_keyword,
  word_keyword,
  aggregate_keyword,
}
use Rattle.c_grammar.specs.TypeWords.{is_type}
use Rattle.c_grammar.specs.Grammar.{
  shape,
  Form,
  form,
  specifier_of,
  is_named,
  assign_parts,
  literal_parts,
  specification,
  specifiers_from,
  all_specified,
  takes_tag,
  tag_parts,
  braced,
  joined,
  listed,
  comma_if,
  member_of,
  enumerator_of,
}
use Rattle.c_grammar.specs.Reading.{a_mark, a_keyword, a_unary, begins_by, begins_keyword, typed_in}
use Rattle.c_grammar.proofs.Spans.{split, no_more, one_less, mark_is}
use Rattle.c_language.proofs.Induction.{Steps, of_expr, of_specifier, of_declarator}
use Rattle.c_grammar.proofs.Equations.{
  shape-Integer,
  shape-Floating,
  shape-Character,
  shape-StringLiteral,
  shape-FunctionName,
  shape-Identifier,
  shape-Parenthesized,
  shape-Subscript,
  shape-Call,
  shape-Member,
  shape-Arrow,
  shape-Postfix,
  shape-Unary,
  shape-SizeofExpr,
  shape-SizeofType,
  shape-Cast,
  shape-Binary,
  shape-Conditional,
  shape-Assign,
  shape-Comma,
  form-Name,
  form-Omitted,
  form-Grouped,
  form-Pointer,
  form-Array,
  form-Function,
  specifier-Storage,
  specifier-Qualifier,
  specifier-Inline,
  specifier-Word,
  specifier-Typedef,
  specifier-Tag,
  specifier-Aggregate,
  specifier-EnumTag,
  specifier-Enumeration,
}

-- a token like this one, at this offset and of this kind
abbrev pub token : ℕ → TokenKind → Token → Token
token at k t = record t { kind = k; start = at }

pub taken : {at : ℕ} {k : TokenKind} {before after : List Token} (x : Takes at k before after) → before ≡ token at k
    x.first ∷ after
taken {at} {k} {before} {after} x =
    x.is ∙ ap (λ (n : ℕ). record x.first { start = n } ∷ after) x.start ∙ ap (λ (c : TokenKind). token at c x.first ∷
    after) x.kind

-- ---- sizes

pub rank_most : (op : BinaryOperator) → rank_of op ≤ 13
rank_most op = grind arith

pub rank_least : (op : BinaryOperator) → 3 < rank_of op
rank_least op = grind arith

-- of an expression: how loosely it binds at most, and that it has a height
abbrev pub Sized : Expr → Type 0
Sized e = ((shape e).rank ≤ 16) × (0 < (shape e).height)

abbrev pub Tall : Specifier → Type 0
Tall x = 0 < (specifier_of x).height

-- of a declarator: it has a height, and it isn't omitted where it has a name
pub record Stands (h : Form) : Type 0 where
  pub tall : 0 < h.height
  pub present : is_named h ≡ true → h.omitted ≡ false

abbrev Standing : Declarator → Type 0
Standing d = Stands (form d)

abbrev Any : {A : Type 0} → A → Type 0
Any x = Unit {0}

size_steps : Steps Standing Sized Any Tall Any Any Any Any
size_steps = record {
  on_integer = λ at constant. rw shape-Integer (omega arith, omega arith);
  on_floating = λ at. rw shape-Floating (omega arith, omega arith);
  on_character = λ at value. rw shape-Character (omega arith, omega arith);
  on_string_literal = λ at pieces. rw shape-StringLiteral (omega arith, omega arith);
  on_function_name = λ at. rw shape-FunctionName (omega arith, omega arith);
  on_identifier = λ at name. rw shape-Identifier (omega arith, omega arith);
  on_parenthesized = λ at inner i. rw shape-Parenthesized (omega arith, omega arith);
  on_subscript = λ at array index i j. rw shape-Subscript (omega arith, omega arith);
  on_call = λ at callee arguments i js. rw shape-Call (omega arith, omega arith);
  on_member = λ at object member i. rw shape-Member (omega arith, omega arith);
  on_arrow = λ at pointer member i. rw shape-Arrow (omega arith, omega arith);
  on_postfix = λ at operator operand i. rw shape-Postfix (omega arith, omega arith);
  on_unary = λ at operator operand i. rw shape-Unary (omega arith, omega arith);
  on_sizeof_expr = λ at operand i. rw shape-SizeofExpr (omega arith, omega arith);
  on_sizeof_type = λ at type_name i. rw shape-SizeofType (omega arith, omega arith);
  on_cast = λ at type_name operand i j. rw shape-Cast (omega arith, omega arith);
  on_binary = λ at operator left right i j. rw shape-Binary (omega (arith, rank_most operator), omega arith);
  on_conditional = λ at condition positive negative i j k. rw shape-Conditional (omega arith, omega arith);
  on_assign = λ at operator target value i j. rw shape-Assign (omega arith, omega arith);
  on_comma = λ at left right i j. rw shape-Comma (omega arith, omega arith);
  on_specifier_storage = λ at class. rw specifier-Storage (omega arith);
  on_specifier_qualifier = λ at qualifier. rw specifier-Qualifier (omega arith);
  on_specifier_inline = λ at. rw specifier-Inline (omega arith);
  on_specifier_word = λ at word. rw specifier-Word (omega arith);
  on_specifier_typedef = λ at name. rw specifier-Typedef (omega arith);
  on_specifier_tag = λ at aggregate tag. rw specifier-Tag (omega arith);
  on_specifier_aggregate = λ at aggregate tag members i. rw specifier-Aggregate (omega arith);
  on_specifier_enum_tag = λ at tag. rw specifier-EnumTag (omega arith);
  on_specifier_enumeration = λ at tag enumerators trailing i. rw specifier-Enumeration (omega arith);
  on_field_plain = λ d i. tt;
  on_field_bits = λ at d width i j. tt;
  on_declarator_name = λ at name. rw form-Name (record { tall = omega arith; present = λ h. refl });
  on_declarator_omitted = rw form-Omitted (record { tall = omega arith; present = λ (h : false ≡ true). cc });
  on_declarator_grouped = λ at inner i. rw form-Grouped (record { tall = omega arith; present = λ h. refl });
  on_declarator_pointer =
      λ at qualifiers target i. rw form-Pointer (record { tall = omega arith; present = λ h. refl });
  on_declarator_array =
      λ at element words length' i j. rw form-Array (record { tall = omega arith; present = λ h. refl });
  on_declarator_function =
      λ at result parameters variadic i js. rw form-Function (record { tall = omega arith; present = λ h. refl });
  on_type_name = λ x i j. tt;
  on_member_declaration = λ x i j. tt;
  on_enumerator = λ x i. tt;
  on_parameter = λ x i j. tt;
}

pub sized : (e : Expr) → Sized e
sized e = of_expr Standing Sized Any Tall Any Any Any Any size_steps e

pub tall : (x : Specifier) → Tall x
tall x = of_specifier Standing Sized Any Tall Any Any Any Any size_steps x

pub stands : (d : Declarator) → Stands (form d)
stands d = of_declarator Standing Sized Any Tall Any Any Any Any size_steps d

-- ---- how an expression begins

-- the tokens that begin an expression
abbrev pub opening : TokenKind → Bool
opening (kind.Integer constant) = true
opening kind.Floating = true
opening (kind.Character value) = true
opening (kind.StringLiteral bytes) = true
opening kind.FunctionName = true
opening (kind.Identifier name) = true
opening (kind.Keyword keyword.Sizeof) = true
opening (kind.Punctuator mark.LeftParen) = true
opening (kind.Punctuator mark.Ampersand) = true
opening (kind.Punctuator mark.Star) = true
opening (kind.Punctuator mark.Plus) = true
opening (kind.Punctuator mark.Minus) = true
opening (kind.Punctuator mark.Tilde) = true
opening (kind.Punctuator mark.Exclamation) = true
opening (kind.Punctuator mark.PlusPlus) = true
opening (kind.Punctuator mark.MinusMinus) = true
opening _ = false

abbrev pub opening_in : List Token → Bool
opening_in [] = false
opening_in (t ∷ rest) = opening t.kind

abbrev pub is_name : TokenKind → Bool
is_name (kind.Identifier name) = true
is_name _ = false

-- whether `:` comes next
abbrev pub colon_in : List Token → Bool
colon_in tokens = begins_by (a_mark mark.Colon) tokens

-- whether a name and `:` come next
abbrev pub labelled : List Token → Bool
labelled [] = false
labelled (t ∷ rest) = is_name t.kind && colon_in rest

-- how the expression begins that stands between these states, if it binds so loosely
pub record Starts (rank : ℕ) (s z : State) : Type 0 where
  pub no_type : specifies_in false s.0 s.1 ≡ false
  pub opens : opening_in s.0 ≡ true
  pub unlabelled : colon_in z.0 ≡ false → labelled s.0 ≡ false
  pub no_unary : rank ≤ 1 → begins_by a_unary s.0 ≡ false
  pub no_sizeof : rank ≤ 1 → begins_keyword keyword.Sizeof s ≡ false
  pub no_cast : rank ≤ 2 → typed_in s.0 s.1 ≡ false

-- an expression that begins with another
weaker : (r r' : ℕ) (s m z : State) → r ≤ r' → colon_in m.0 ≡ false → Starts r s m → Starts r' s z
weaker r r' s m z le c x = record {
  no_type = x.no_type;
  opens = x.opens;
  unlabelled = λ h. x.unlabelled c;
  no_unary = λ h. x.no_unary (omega arith);
  no_sizeof = λ h. x.no_sizeof (omega arith);
  no_cast = λ h. x.no_cast (omega arith);
}

-- what the first token says, where that is no name and no parenthesis
record First (rank : ℕ) (k : TokenKind) : Type 0 where
  no_type : (scope : Scope) → specifies_by scope false k ≡ false
  opens : opening k ≡ true
  no_name : is_name k ≡ false
  no_unary : rank ≤ 1 → a_unary k ≡ None
  no_sizeof : rank ≤ 1 → a_keyword keyword.Sizeof k ≡ None
  no_paren : a_mark mark.LeftParen k ≡ None

by_first : (r at : ℕ) (k : TokenKind) (t : Token) (rest : List Token) (scope : Scope) (z : State) → First r k →
    Starts r (token at k t ∷ rest, scope) z
by_first r at k t rest scope z f = record {
  no_type = f.no_type scope;
  opens = f.opens;
  unlabelled = λ h. rw f.no_name refl;
  no_unary = λ h. rw (f.no_unary h) refl;
  no_sizeof = λ h. rw (f.no_sizeof h) refl;
  no_cast = λ h. rw f.no_paren refl;
}

from_tokens : (r : ℕ) (s z : State) (tokens : List Token) → s.0 ≡ tokens → Starts r (tokens, s.1) z → Starts r s z
from_tokens r s z tokens e x = subst (λ (l : List Token). Starts r (l, s.1) z) (sym e) x

from_first : (r : ℕ) (s z : State) (at : ℕ) (k : TokenKind) (rest : List Token) → Takes at k s.0 rest → First r k →
    Starts r s z
from_first r s z at k rest t f = from_tokens r s z _ (taken t) (by_first r at k t.first rest s.1 z f)

unary_first : (op : UnaryOperator) (r : ℕ) → 2 ≤ r → First r (kind.Punctuator (unary_mark op))
unary_first unary.Address r le =
    record {
      no_type = λ scope. refl;
      opens = refl;
      no_name = refl;
      no_unary = λ h. absurd (omega arith);
      no_sizeof = λ h. refl;
      no_paren = refl;
    }
unary_first unary.Indirection r le =
    record {
      no_type = λ scope. refl;
      opens = refl;
      no_name = refl;
      no_unary = λ h. absurd (omega arith);
      no_sizeof = λ h. refl;
      no_paren = refl;
    }
unary_first unary.Plus r le =
    record {
      no_type = λ scope. refl;
      opens = refl;
      no_name = refl;
      no_unary = λ h. absurd (omega arith);
      no_sizeof = λ h. refl;
      no_paren = refl;
    }
unary_first unary.Minus r le =
    record {
      no_type = λ scope. refl;
      opens = refl;
      no_name = refl;
      no_unary = λ h. absurd (omega arith);
      no_sizeof = λ h. refl;
      no_paren = refl;
    }
unary_first unary.Complement r le =
    record {
      no_type = λ scope. refl;
      opens = refl;
      no_name = refl;
      no_unary = λ h. absurd (omega arith);
      no_sizeof = λ h. refl;
      no_paren = refl;
    }
unary_first unary.Not r le =
    record {
      no_type = λ scope. refl;
      opens = refl;
      no_name = refl;
      no_unary = λ h. absurd (omega arith);
      no_sizeof = λ h. refl;
      no_paren = refl;
    }
unary_first unary.Increment r le =
    record {
      no_type = λ scope. refl;
      opens = refl;
      no_name = refl;
      no_unary = λ h. absurd (omega arith);
      no_sizeof = λ h. refl;
      no_paren = refl;
    }
unary_first unary.Decrement r le =
    record {
      no_type = λ scope. refl;
      opens = refl;
      no_name = refl;
      no_unary = λ h. absurd (omega arith);
      no_sizeof = λ h. refl;
      no_paren = refl;
    }

sizeof_first : First 2 (kind.Keyword keyword.Sizeof)
sizeof_first =
    record {
      no_type = λ scope. refl;
      opens = refl;
      no_name = refl;
      no_unary = λ h. refl;
      no_sizeof = λ h. absurd (omega arith);
      no_paren = refl;
    }

name_starts : (at : ℕ) (name : Name) (t : Token) (rest : List Token) (scope : Scope) (z : State) → is_typedef name
    scope ≡ false → rest ≡ z.0 → Starts 0 (token at (kind.Identifier name) t ∷ rest, scope) z
name_starts at name t rest scope z o e = record {
  no_type = rw o refl;
  opens = refl;
  unlabelled = λ h. rw e h;
  no_unary = λ h. refl;
  no_sizeof = λ h. refl;
  no_cast = λ h. refl;
}

paren_starts : (at : ℕ) (t : Token) (rest : List Token) (scope : Scope) (z : State) (r : ℕ) →
    (r ≤ 2 → specifies_in false rest scope ≡ false) → Starts r (
      token at (kind.Punctuator mark.LeftParen) t ∷ rest,
      scope,
    ) z
paren_starts at t rest scope z r h =
    record {
      no_type = refl;
      opens = refl;
      unlabelled = λ i. refl;
      no_unary = λ i. refl;
      no_sizeof = λ i. refl;
      no_cast = λ i. h i;
    }

postfix_colon : (op : PostfixOperator) → a_mark mark.Colon (kind.Punctuator (postfix_mark op)) ≡ None
postfix_colon postfix.Increment = refl
postfix_colon postfix.Decrement = refl

binary_colon : (op : BinaryOperator) → a_mark mark.Colon (kind.Punctuator (binary_mark op)) ≡ None
binary_colon op = grind rules

-- an assignment begins with its target, before `=` or the like
assign_colon : (at : ℕ) (op : Option BinaryOperator) (ps : List Part) (s z : State) → Spans (assign_parts at op ++ ps)
    s z → colon_in s.0 ≡ false
assign_colon at None ps s z x = rw (taken x.1) refl
assign_colon at (Some binary.Multiply) ps s z x = rw (taken x.1) refl
assign_colon at (Some binary.Divide) ps s z x = rw (taken x.1) refl
assign_colon at (Some binary.Remainder) ps s z x = rw (taken x.1) refl
assign_colon at (Some binary.Add) ps s z x = rw (taken x.1) refl
assign_colon at (Some binary.Subtract) ps s z x = rw (taken x.1) refl
assign_colon at (Some binary.ShiftLeft) ps s z x = rw (taken x.1) refl
assign_colon at (Some binary.ShiftRight) ps s z x = rw (taken x.1) refl
assign_colon at (Some binary.BitAnd) ps s z x = rw (taken x.1) refl
assign_colon at (Some binary.BitXor) ps s z x = rw (taken x.1) refl
assign_colon at (Some binary.BitOr) ps s z x = rw (taken x.1) refl
assign_colon at (Some _) ps s z x = let no = x.0 in cc

literal_starts : (at : ℕ) (pieces : List (List ℕ)) (s z : State) → Spans (literal_parts at pieces) s z → Starts 0 s z
literal_starts at [] s z x = let no = x.0 in cc
literal_starts at (p ∷ ps) s z x =
    from_first 0 s z _ _ _ x.1 (record {
      no_type = λ scope. refl;
      opens = refl;
      no_name = refl;
      no_unary = λ h. refl;
      no_sizeof = λ h. refl;
      no_paren = refl;
    })

abbrev Beginning : Expr → Type 0
Beginning e = (s z : State) → Spans (shape e).parts s z → Starts (shape e).rank s z

another_by : (begins_so : TokenKind → Bool) (m : Punctuator) (k : TokenKind) (r : Option (Unit {0})) →
    a_mark m k ≡ r → begins_so k ≡ true → begins_so (kind.Punctuator m) ≡ false → r ≡ None
another_by begins_so m k None e h shut = refl
another_by begins_so m k (Some x) e h shut =
    let bad : true ≡ false = sym h ∙ ap begins_so (mark_is m k e) ∙ shut in
    cc

-- a token that may stand here is no mark that may not
pub another : (begins_so : TokenKind → Bool) (m : Punctuator) (k : TokenKind) → begins_so k ≡ true →
    begins_so (kind.Punctuator m) ≡ false → a_mark m k ≡ None
another begins_so m k h shut = another_by begins_so m k (a_mark m k) refl h shut

-- no expression begins with a mark that opens none
pub not_opening : (m : Punctuator) (tokens : List Token) → opening_in tokens ≡ true → opening (kind.Punctuator m) ≡
    false → begins_by (a_mark m) tokens ≡ false
not_opening m [] h shut = cc
not_opening m (t ∷ rest) h shut = rw (another opening m t.kind h shut) refl

-- ---- how a declarator begins

abbrev pub directs : TokenKind → Bool
directs (kind.Identifier name) = true
directs (kind.Punctuator mark.LeftParen) = true
directs (kind.Punctuator mark.LeftBracket) = true
directs _ = false

abbrev pub directs_in : List Token → Bool
directs_in [] = false
directs_in (t ∷ rest) = directs t.kind

-- the tokens that begin a declarator
abbrev pub declares_by : TokenKind → Bool
declares_by (kind.Punctuator mark.Star) = true
declares_by k = directs k

abbrev pub declares_in : List Token → Bool
declares_in [] = false
declares_in (t ∷ rest) = declares_by t.kind

-- it begins with one of them, or is omitted
pub record Heads (h : Form) : Type 0 where
  pub any : (where_ : DeclaratorPlace) (s z : State) → Spans (h.parts where_) s z → (declares_in s.0 ≡ true) ⊎
      ((h.omitted ≡ true) × (s ≡ z))
  pub direct : (where_ : DeclaratorPlace) (s z : State) → Spans (h.parts where_) s z → h.rank ≤ 1 →
      (directs_in s.0 ≡ true) ⊎ ((h.omitted ≡ true) × (s ≡ z))

directs_declares : (k : TokenKind) → directs k ≡ true → declares_by k ≡ true
directs_declares (kind.Punctuator mark.Star) h = refl
directs_declares _ h = h

directs_any : (tokens : List Token) → directs_in tokens ≡ true → declares_in tokens ≡ true
directs_any [] h = cc
directs_any (t ∷ rest) h = directs_declares t.kind h

from_direct : (h : Form) → ((where_ : DeclaratorPlace) (s z : State) → Spans (h.parts where_) s z → directs_in s.0 ≡
    true) → Heads h
from_direct h f = record { any = λ w s z x. inl (directs_any s.0 (f w s z x)); direct = λ w s z x le. inl (f w s z x) }

-- a suffix stands behind an omitted declarator
behind_suffix : (h : Form) (s m : State) → (directs_in s.0 ≡ true) ⊎ ((h.omitted ≡ true) × (s ≡ m)) → directs_in m.0 ≡
    true → directs_in s.0 ≡ true
behind_suffix h s m (inl d) e = d
behind_suffix h s m (inr o) e = ap (λ (q : State). directs_in q.0) o.1 ∙ e

abbrev Heading : Declarator → Type 0
Heading d = Heads (form d)

-- what no declarator begins with
pub record NoSpecifier (tokens : List Token) : Type 0 where
  pub typed : (scope : Scope) → specifies_in true tokens scope ≡ false
  pub brace : begins_by (a_mark mark.LeftBrace) tokens ≡ false
  pub colon : begins_by (a_mark mark.Colon) tokens ≡ false
  pub semicolon : begins_by (a_mark mark.Semicolon) tokens ≡ false
  pub close : begins_by (a_mark mark.RightParen) tokens ≡ false

declares_typed : (scope : Scope) (k : TokenKind) → declares_by k ≡ true → specifies_by scope true k ≡ false
declares_typed scope (kind.Keyword k) h = cc
declares_typed scope _ h = refl

pub no_specifier : (tokens : List Token) → declares_in tokens ≡ true → NoSpecifier tokens
no_specifier [] h = cc
no_specifier (t ∷ rest) h = record {
  typed = λ scope. declares_typed scope t.kind h;
  brace = rw (another declares_by mark.LeftBrace t.kind h refl) refl;
  colon = rw (another declares_by mark.Colon t.kind h refl) refl;
  semicolon = rw (another declares_by mark.Semicolon t.kind h refl) refl;
  close = rw (another declares_by mark.RightParen t.kind h refl) refl;
}

-- ---- how a specifier begins

class_begins : (c : StorageClass) → begins_type (class_keyword c) ≡ true
class_begins c = grind rules

qualifier_begins : (q : Qualifier) → begins_type (qualifier_keyword q) ≡ true
qualifier_begins q = grind rules

word_begins : (w : TypeWord) → begins_type (word_keyword w) ≡ true
word_begins w = grind rules

aggregate_begins : (a : AggregateKind) → begins_type (aggregate_keyword a) ≡ true
aggregate_begins a = grind rules

-- a specifier begins so, takes a token, and is no label
pub record Specifies (typed : Bool) (s z : State) : Type 0 where
  pub begins : specifies_in typed s.0 s.1 ≡ true
  pub less : length z.0 < length s.0
  pub unlabelled : colon_in z.0 ≡ false → labelled s.0 ≡ false

by_keyword : (typed : Bool) (at : ℕ) (k : Keyword) (ps : List Part) (s z : State) → begins_type k ≡ true →
    Spans (takes_at at (kind.Keyword k) ∷ ps) s z → Specifies typed s z
by_keyword typed at k ps s z b x =
    let l = one_less at (kind.Keyword k) s.0 x.0 x.1 in
    let l' = no_more ps (x.0, s.1) z x.2 in
    record { begins = rw (taken x.1) b; less = omega arith; unlabelled = λ h. rw (taken x.1) refl }

typedef_specifies : (typed : Bool) (at : ℕ) (name : Name) (s z : State) → Spans (holds (not typed) ∷ typedef_name name
    ∷ takes_at at (kind.Identifier name) ∷ []) s z → Specifies typed s z
typedef_specifies typed at name s z x =
    let l = one_less at (kind.Identifier name) s.0 x.1.1.0 x.1.1.1 in
    let e = ap (λ (q : State). length q.0) x.1.1.2 in
    let c = ap (λ (q : State). colon_in q.0) x.1.1.2 in
    record {
      begins = rw (taken x.1.1.1, x.0, x.1.0) refl;
      less = omega arith;
      unlabelled = λ h. rw (taken x.1.1.1) (c ∙ h);
    }

abbrev Specifying : Specifier → Type 0
Specifying x = (typed : Bool) (s z : State) → Spans ((specifier_of x).parts typed) s z → Specifies typed s z

-- ---- how each kind of tree begins

begin_steps : Steps Heading Beginning Any Specifying Any Any Any Any
begin_steps = record {
  on_integer =
      λ at constant s z. rw shape-Integer (λ (x : _). from_first 0 s z _ _ _ x.1 (record {
        no_type = λ scope. refl;
        opens = refl;
        no_name = refl;
        no_unary = λ h. refl;
        no_sizeof = λ h. refl;
        no_paren = refl;
      }));
  on_floating =
      λ at s z. rw shape-Floating (λ (x : _). from_first 0 s z _ _ _ x.1 (record {
        no_type = λ scope. refl;
        opens = refl;
        no_name = refl;
        no_unary = λ h. refl;
        no_sizeof = λ h. refl;
        no_paren = refl;
      }));
  on_character =
      λ at value s z. rw shape-Character (λ (x : _). from_first 0 s z _ _ _ x.1 (record {
        no_type = λ scope. refl;
        opens = refl;
        no_name = refl;
        no_unary = λ h. refl;
        no_sizeof = λ h. refl;
        no_paren = refl;
      }));
  on_string_literal = λ at pieces s z. rw shape-StringLiteral (λ (x : _). literal_starts at pieces s z x);
  on_function_name =
      λ at s z. rw shape-FunctionName (λ (x : _). from_first 0 s z _ _ _ x.1 (record {
        no_type = λ scope. refl;
        opens = refl;
        no_name = refl;
        no_unary = λ h. refl;
        no_sizeof = λ h. refl;
        no_paren = refl;
      }));
  on_identifier =
      λ at name s z. rw shape-Identifier (λ (x : _). from_tokens 0 s z _ (taken x.1.1)
      (name_starts at name x.1.1.first x.1.0 s.1 z x.0 (ap (λ (q : State). q.0) x.1.2)));
  on_parenthesized =
      λ at inner i s z. rw shape-Parenthesized (λ (x : _). from_tokens 0 s z _ (taken x.1) (paren_starts at x.1.first
      x.0 s.1 z 0 (λ h. (i (x.0, s.1) _ (split (shape inner).parts _ (x.0, s.1) z x.2).1).no_type)));
  on_subscript =
      λ at array index i j s z. rw shape-Subscript (λ (x : _). let p = split (shape array).parts _ s z x.1 in
      weaker _ 1 s p.0 z x.0 (rw (taken p.2.1) refl) (i s _ p.1));
  on_call =
      λ at callee arguments i js s z. rw shape-Call (λ (x : _). let p = split (shape callee).parts _ s z x.1 in
      weaker _ 1 s p.0 z x.0 (rw (taken p.2.1) refl) (i s _ p.1));
  on_member =
      λ at object member i s z. rw shape-Member (λ (x : _). let p = split (shape object).parts _ s z x.1 in
      weaker _ 1 s p.0 z x.0 (rw (taken p.2.1) refl) (i s _ p.1));
  on_arrow =
      λ at pointer member i s z. rw shape-Arrow (λ (x : _). let p = split (shape pointer).parts _ s z x.1 in
      weaker _ 1 s p.0 z x.0 (rw (taken p.2.1) refl) (i s _ p.1));
  on_postfix =
      λ at operator operand i s z. rw shape-Postfix (λ (x : _). let p = split (shape operand).parts _ s z x.1 in
      weaker _ 1 s p.0 z x.0 (rw (taken p.2.1, postfix_colon operator) refl) (i s _ p.1));
  on_unary =
      λ at operator operand i s z. rw shape-Unary (λ (x : _). from_first 2 s z _ _ _ x.1.1 (unary_first operator 2
      (omega arith)));
  on_sizeof_expr = λ at operand i s z. rw shape-SizeofExpr (λ (x : _). from_first 2 s z _ _ _ x.1.1 sizeof_first);
  on_sizeof_type = λ at type_name i s z. rw shape-SizeofType (λ (x : _). from_first 2 s z _ _ _ x.1 sizeof_first);
  on_cast =
      λ at type_name operand i j s z. rw shape-Cast (λ (x : _). from_tokens 3 s z _ (taken x.1.1)
      (paren_starts at x.1.1.first x.1.0 s.1 z 3 (λ h. absurd (omega arith))));
  on_binary =
      λ at operator left right i j s z. rw shape-Binary (λ (x : _). let p = split (shape left).parts _ s z x.1.1 in
      weaker _ _ s p.0 z x.0 (rw (taken p.2.1, binary_colon operator) refl) (i s _ p.1));
  on_conditional =
      λ at condition positive negative i j k s z. rw shape-Conditional (λ (x : _). let p =
      split (shape condition).parts _ s z x.1.1 in weaker _ 14 s p.0 z (omega (arith, x.0))
      (rw (taken p.2.1) refl) (i s _ p.1));
  on_assign =
      λ at operator target value i j s z. rw shape-Assign (λ (x : _). let p = split (shape target).parts _ s z
      x.1.1 in weaker _ 15 s p.0 z (omega (arith, x.0)) (assign_colon at operator (shape value).parts p.0 z p.2)
      (i s _ p.1));
  on_comma =
      λ at left right i j s z. rw shape-Comma (λ (x : _). let p = split (shape left).parts _ s z x.1 in weaker _ 16 s
      p.0 z (sized left).0 (rw (taken p.2.1) refl) (i s _ p.1));
  on_specifier_storage =
      λ at class typed s z. rw specifier-Storage (λ (x : _). by_keyword typed at _ [] s z (class_begins class) x);
  on_specifier_qualifier =
      λ at qualifier typed s z. rw specifier-Qualifier (λ (x : _). by_keyword typed at _ [] s z
      (qualifier_begins qualifier) x);
  on_specifier_inline = λ at typed s z. rw specifier-Inline (λ (x : _). by_keyword typed at _ [] s z refl x);
  on_specifier_word =
      λ at word typed s z. rw specifier-Word (λ (x : _). by_keyword typed at _ [] s z (word_begins word) x);
  on_specifier_typedef = λ at name typed s z. rw specifier-Typedef (λ (x : _). typedef_specifies typed at name s z x);
  on_specifier_tag =
      λ at aggregate tag typed s z. rw specifier-Tag (λ (x : _). by_keyword typed at _ (takes_tag tag ∷ []) s z
      (aggregate_begins aggregate) x);
  on_specifier_aggregate =
      λ at aggregate tag members i typed s z. rw specifier-Aggregate (λ (x : _). by_keyword typed at _
      (tag_parts tag ++ braced (joined (map member_of members))) s z (aggregate_begins aggregate) x);
  on_specifier_enum_tag =
      λ at tag typed s z. rw specifier-EnumTag (λ (x : _). by_keyword typed at _ (takes_tag tag ∷ []) s z refl x);
  on_specifier_enumeration =
      λ at tag enumerators trailing i typed s z. rw specifier-Enumeration (λ (x : _). by_keyword typed at _
      (tag_parts tag ++ braced (listed (map enumerator_of enumerators) ++ comma_if trailing)) s z refl x);
  on_field_plain = λ d i. tt;
  on_field_bits = λ at d width i j. tt;
  on_declarator_name = λ at name. rw form-Name (from_direct _ (λ w s z x. rw (taken x.1) refl));
  on_declarator_omitted =
      rw form-Omitted (record { any = λ w s z x. inr (refl, x); direct = λ w s z x le. inr (refl, x) });
  on_declarator_grouped = λ at inner i. rw form-Grouped (from_direct _ (λ w s z x. rw (taken x.1) refl));
  on_declarator_pointer =
      λ at qualifiers target i. rw form-Pointer (record {
        any = λ w s z x. inl (rw (taken x.1) refl);
        direct = λ w s z x le. absurd (omega arith);
      });
  on_declarator_array =
      λ at element words length' i j. rw form-Array (from_direct _ (λ w s z x. let p = split ((form element).parts w)
      _ s z x.1 in behind_suffix (form element) s p.0 (i.direct w s p.0 p.1 x.0) (rw (taken p.2.1) refl)));
  on_declarator_function =
      λ at result parameters variadic i js. rw form-Function (from_direct _ (λ w s z x. let p =
      split ((form result).parts w) _ s z x.1 in behind_suffix (form result) s p.0 (i.direct w s p.0 p.1 x.0)
      (rw (taken p.2.1) refl)));
  on_type_name = λ x i j. tt;
  on_member_declaration = λ x i j. tt;
  on_enumerator = λ x i. tt;
  on_parameter = λ x i j. tt;
}

-- how an expression begins
pub starts : (e : Expr) (s z : State) → Spans (shape e).parts s z → Starts (shape e).rank s z
starts e = of_expr Heading Beginning Any Specifying Any Any Any Any begin_steps e

-- how a declarator begins
pub heads : (d : Declarator) → Heads (form d)
heads d = of_declarator Heading Beginning Any Specifying Any Any Any Any begin_steps d

-- a declarator with a name begins with a token of its own
pub named_declares : (d : Declarator) (where_ : DeclaratorPlace) (s z : State) → Spans ((form d).parts where_) s z →
    is_named (form d) ≡ true → declares_in s.0 ≡ true
named_declares d where_ s z x h =
    elim ((heads d).any where_ s z x) [
      | inl b ↦ b
      | inr o ↦ let present = (stands d).present h in let omitted = o.0 in cc
    ]

-- how a specifier begins
pub specifies : (x : Specifier) (typed : Bool) (s z : State) → Spans ((specifier_of x).parts typed) s z →
    Specifies typed s z
specifies x = of_specifier Heading Beginning Any Specifying Any Any Any Any begin_steps x

-- a token that begins a specifier is no mark
specifies_mark : (m : Punctuator) (k : TokenKind) (scope : Scope) (typed : Bool) → specifies_by scope typed k ≡ true →
    a_mark m k ≡ None
specifies_mark m (kind.Punctuator n) scope typed h = cc
specifies_mark m _ scope typed h = refl

pub specified_mark : (m : Punctuator) (tokens : List Token) (scope : Scope) (typed : Bool) → specifies_in typed tokens
    scope ≡ true → begins_by (a_mark m) tokens ≡ false
specified_mark m [] scope typed h = refl
specified_mark m (t ∷ rest) scope typed h = rw (specifies_mark m t.kind scope typed h) refl

specifiers_colon : (typed : Bool) (xs : List Specifier) (s z : State) →
    Spans (specifiers_from typed (all_specified xs)) s z → colon_in z.0 ≡ false → colon_in s.0 ≡ false
specifiers_colon typed [] s z x h = rw x h
specifiers_colon typed (y ∷ ys) s z x h =
    let p = split ((specifier_of y).parts typed) _ s z x in
    specified_mark mark.Colon s.0 s.1 typed (specifies y typed s p.0 p.1).begins

-- a specification begins with a specifier, and with no label
pub specification_begins : (xs : List Specifier) (s z : State) → Spans (specification (all_specified xs)) s z →
    (specifies_in false s.0 s.1 ≡ true) × (length z.0 < length s.0) × (colon_in z.0 ≡ false → labelled s.0 ≡ false)
specification_begins [] s z x = let no_type = x.0 in cc
specification_begins (y ∷ ys) s z x =
    let q = split (specifiers_from false (all_specified (y ∷ ys))) _ s z x in
    let p = split ((specifier_of y).parts false) (specifiers_from (false || is_type (specifier_of y).kind)
    (all_specified ys)) s q.0 q.1 in
    let b = specifies y false s p.0 p.1 in
    let l = no_more (specifiers_from (false || is_type (specifier_of y).kind) (all_specified ys)) p.0 q.0 p.2 in
    let l' = ap (λ (m : State). length m.0) q.2.1 in
    let l'' = b.less in (
      b.begins,
      omega arith,
      λ h. b.unlabelled (specifiers_colon _ ys p.0 q.0 p.2 (ap (λ (m : State). colon_in m.0)
          q.2.1 ∙ h)),
    )
