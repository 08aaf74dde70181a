-- Reading an expression, a specifier or a declarator: a tree and the state after it, or nothing.
use Rattle.std.specs.Prelude.{
  ℕ,
  zero,
  suc,
  pred,
  List,
  [],
  ◌∷◌,
  length,
  map,
  Bool,
  true,
  false,
  cond,
  ◌||◌,
  ◌&&◌,
  nat_eq,
  nat_le,
  Option,
  Some,
  None,
}
use denote.Enum.Bare.{sameb}
use Rattle.c_language.specs.declared.token.Token.{Token}
use Rattle.c_language.specs.declared.token.TokenKind.{TokenKind}
use Rattle.c_language.specs.declared.token.TokenKind.TheVariants as kind
use Rattle.c_language.specs.declared.token.Keyword.{Keyword}
use Rattle.c_language.specs.declared.token.Keyword.TheVariants as keyword
use Rattle.c_language.specs.declared.token.Punctuator.{Punctuator}
use Rattle.c_language.specs.declared.token.Punctuator.TheVariants as mark
use Rattle.c_language.specs.contracts.token.Keyword.{the_type as keyword_type}
use Rattle.c_language.specs.contracts.token.Punctuator.{the_type as punctuator_type}
use Rattle.c_language.specs.declared.expr.UnaryOperator.{UnaryOperator}
use Rattle.c_language.specs.declared.expr.PostfixOperator.TheVariants as postfix
use Rattle.c_language.specs.declared.expr.BinaryOperator.{BinaryOperator}
use Rattle.c_language.specs.declared.expr.Qualifier.{Qualifier}
use Rattle.c_language.specs.declared.expr.ArrayWord.{ArrayWord}
use Rattle.c_language.specs.declared.expr.AggregateKind.{AggregateKind}
use Rattle.c_language.specs.declared.expr.TagName.{TagName}
use Rattle.c_language.specs.declared.expr.Expr.{Expr}
use Rattle.c_language.specs.declared.expr.Expr.TheVariants as expr
use Rattle.c_language.specs.declared.expr.TypeName.{TypeName}
use Rattle.c_language.specs.declared.expr.Specifier.{Specifier}
use Rattle.c_language.specs.declared.expr.Specifier.TheVariants as specifier
use Rattle.c_language.specs.declared.expr.MemberDeclaration.{MemberDeclaration}
use Rattle.c_language.specs.declared.expr.Field.{Field}
use Rattle.c_language.specs.declared.expr.Field.TheVariants as field
use Rattle.c_language.specs.declared.expr.Enumerator.{Enumerator}
use Rattle.c_language.specs.declared.expr.Declarator.{Declarator}
use Rattle.c_language.specs.declared.expr.Declarator.TheVariants as declarator
use Rattle.c_language.specs.declared.expr.Parameter.{Parameter}
use Rattle.c_grammar.specs.declared.declarator_place.DeclaratorPlace.{DeclaratorPlace}
use Rattle.c_grammar.specs.declared.declarator_place.DeclaratorPlace.TheVariants as place
use Rattle.c_grammar.specs.declared.operators.Infix.{Infix}
use Rattle.c_grammar.specs.declared.operators.Infix.TheVariants as between
use Rattle.c_grammar.specs.declared.type_words.TypeKind.{TypeKind}
use Rattle.c_grammar.specs.TypeWords.{are_allowed, is_type}
use Rattle.c_grammar.specs.Spelling.{rank_of, operand_rank}
use Rattle.c_grammar.specs.Operators.{
  unary_of,
  infix_of,
  binding_of,
  qualifier_of,
  array_word_of,
  aggregate_of,
  word_specifier,
}
use Rattle.c_grammar.specs.Parts.{Name, Scope, State, is_typedef, declared, entered, left, left_keeping, specifies_in}
use Rattle.c_grammar.specs.Grammar.{shape, form, specifier_of, may_omit}

abbrev pub Reading : Type 0 → Type 0
Reading A = Option (A × State)

infixl 10 ◌>>=◌
abbrev pub ◌>>=◌ : {A B : Type 0} → Option A → (A → Option B) → Option B
None >>= f = None
(Some x) >>= f = f x

-- ---- tokens

-- the first token, if it is wanted, its offset, and the state behind it
abbrev pub take_by : {A : Type 0} → (TokenKind → Option A) → List Token → Scope → Option (A × ℕ × State)
take_by wanted [] scope = None
take_by wanted (t ∷ rest) scope = wanted t.kind >>= (λ a. Some (a, t.start, (rest, scope)))

abbrev pub a_mark : Punctuator → TokenKind → Option (Unit {0})
a_mark wanted (kind.Punctuator m) = cond (sameb punctuator_type m wanted) (Some tt) None
a_mark wanted _ = None

abbrev pub a_keyword : Keyword → TokenKind → Option (Unit {0})
a_keyword wanted (kind.Keyword k) = cond (sameb keyword_type k wanted) (Some tt) None
a_keyword wanted _ = None

abbrev pub a_name : TokenKind → Option Name
a_name (kind.Identifier name) = Some name
a_name _ = None

abbrev pub a_literal : TokenKind → Option (List ℕ)
a_literal (kind.StringLiteral bytes) = Some bytes
a_literal _ = None

abbrev pub expect : Punctuator → State → Option (Unit {0} × ℕ × State)
expect wanted s = take_by (a_mark wanted) s.0 s.1

abbrev pub expect_keyword : Keyword → State → Option (Unit {0} × ℕ × State)
expect_keyword wanted s = take_by (a_keyword wanted) s.0 s.1

abbrev pub name_at : State → Option (Name × ℕ × State)
name_at s = take_by a_name s.0 s.1

-- a tag, by the offset of its own token
abbrev pub tag_at : State → Reading TagName
tag_at s = name_at s >>= (λ name. Some (record { at = name.1; name = name.0 }, name.2))

abbrev pub holds_some : {A : Type 0} → Option A → Bool
holds_some None = false
holds_some (Some x) = true

-- whether the first token is wanted
abbrev pub begins_by : {A : Type 0} → (TokenKind → Option A) → List Token → Bool
begins_by wanted [] = false
begins_by wanted (t ∷ rest) = holds_some (wanted t.kind)

abbrev pub begins : Punctuator → State → Bool
begins wanted s = begins_by (a_mark wanted) s.0

abbrev pub begins_keyword : Keyword → State → Bool
begins_keyword wanted s = begins_by (a_keyword wanted) s.0

-- ---- what is read at one level

-- how the parts are read that stand inside: an expression that binds at most so loosely, a specifier, and a declarator
-- at such a place
pub record Rules : Type 0 where
  pub expr : ℕ → State → Reading Expr
  pub specifier : State → Reading Specifier
  pub declarator : DeclaratorPlace → State → Reading Declarator

-- ---- declaration specifiers

abbrev pub kind_of : Specifier → TypeKind
kind_of x = (specifier_of x).kind

unfoldable pub specifiers_at : Rules → ℕ → Bool → State → Reading (List Specifier)
specifiers_at r zero typed s = None
specifiers_at r (suc n) typed s = cond (specifies_in typed s.0 s.1)
    (r.specifier s >>= (λ x. specifiers_at r n (typed || is_type (kind_of x.0)) x.1 >>=
    (λ more. Some (x.0 ∷ more.0, more.1))))
    (Some ([], s))

-- specifiers that name one type
unfoldable pub specification_at : Rules → State → Reading (List Specifier)
specification_at r s = do
  xs ← specifiers_at r (suc (length s.0)) false s
  cond (are_allowed (map kind_of xs.0)) (Some (xs.0, xs.1)) None

unfoldable pub type_name_at : Rules → State → Reading TypeName
type_name_at r s = do
  xs ← specification_at r s
  d ← r.declarator place.TypeName xs.1
  Some (record { specifiers = xs.0; declarator = d.0 }, d.1)

-- an expression behind `=`, if there is one
unfoldable pub value_at : Rules → State → Reading (Option Expr)
value_at r s =
    cond (begins mark.Equal s) (expect mark.Equal s >>= (λ eq. r.expr 14 eq.2 >>= (λ e. Some (Some e.0, e.1))))
    (Some (None, s))

unfoldable pub enumerator_at : Rules → State → Reading Enumerator
enumerator_at r s = do
  name ← name_at s
  value ← value_at r name.2
  Some (record { at = name.1; name = name.0; value = value.0 }, (value.1.0, declared name.0 false value.1.1))

-- the enumerators behind the first, and whether a comma follows the last
unfoldable pub more_enumerators_at : Rules → ℕ → State → Reading (List Enumerator × Bool)
more_enumerators_at r zero s = None
more_enumerators_at r (suc n) s = cond (begins mark.Comma s)
    (expect mark.Comma s >>= (λ c. cond (begins mark.RightBrace c.2)
    (Some (([], true), c.2))
    (enumerator_at r c.2 >>= (λ x. more_enumerators_at r n x.1 >>=
    (λ more. Some ((x.0 ∷ more.0.0, more.0.1), more.1))))))
    (Some (([], false), s))

unfoldable pub enumeration_at : Rules → ℕ → Option TagName → State → Reading Specifier
enumeration_at r at tag s = do
  start ← expect mark.LeftBrace s
  first ← enumerator_at r start.2
  more ← more_enumerators_at r (suc (length first.1.0)) first.1
  end ← expect mark.RightBrace more.1
  Some (specifier.Enumeration at tag (first.0 ∷ more.0.0) more.0.1, end.2)

-- after the word `enum`
unfoldable pub enum_at : Rules → ℕ → State → Reading Specifier
enum_at r at s = cond (begins mark.LeftBrace s) (enumeration_at r at None s) (do
  tag ← tag_at s
  cond (begins mark.LeftBrace tag.1)
      (enumeration_at r at (Some tag.0) tag.1)
      (Some (specifier.EnumTag at tag.0, tag.1)))

unfoldable pub bits_at : Rules → Option Declarator → State → Reading Field
bits_at r d s = do
  colon ← expect mark.Colon s
  width ← r.expr 14 colon.2
  Some (field.Bits colon.1 d width.0, width.1)

unfoldable pub field_at : Rules → State → Reading Field
field_at r s = cond (begins mark.Colon s) (bits_at r None s) (do
  d ← r.declarator place.Member s
  cond (begins mark.Colon d.1) (bits_at r (Some d.0) d.1) (Some (field.Plain d.0, d.1)))

unfoldable pub more_fields_at : Rules → ℕ → State → Reading (List Field)
more_fields_at r zero s = None
more_fields_at r (suc n) s = cond (begins mark.Comma s)
    (expect mark.Comma s >>= (λ c. field_at r c.2 >>= (λ x. more_fields_at r n x.1 >>=
    (λ more. Some (x.0 ∷ more.0, more.1)))))
    (Some ([], s))

unfoldable pub fields_at : Rules → State → Reading (List Field)
fields_at r s = cond (begins mark.Semicolon s) (Some ([], s)) (do
  first ← field_at r s
  more ← more_fields_at r (suc (length first.1.0)) first.1
  Some (first.0 ∷ more.0, more.1))

unfoldable pub member_at : Rules → State → Reading MemberDeclaration
member_at r s = do
  xs ← specification_at r s
  fields ← fields_at r xs.1
  end ← expect mark.Semicolon fields.1
  Some (record { specifiers = xs.0; fields = fields.0 }, end.2)

unfoldable pub members_at : Rules → ℕ → State → Reading (List MemberDeclaration)
members_at r zero s = None
members_at r (suc n) s = cond (begins mark.RightBrace s)
    (Some ([], s))
    (member_at r s >>= (λ x. members_at r n x.1 >>= (λ more. Some (x.0 ∷ more.0, more.1))))

unfoldable pub aggregate_at : Rules → ℕ → AggregateKind → Option TagName → State → Reading Specifier
aggregate_at r at aggregate tag s = do
  start ← expect mark.LeftBrace s
  members ← members_at r (suc (length start.2.0)) start.2
  end ← expect mark.RightBrace members.1
  Some (specifier.Aggregate at aggregate tag members.0, end.2)

-- after the word `struct` or `union`
unfoldable pub tagged_at : Rules → ℕ → AggregateKind → State → Reading Specifier
tagged_at r at aggregate s = cond (begins mark.LeftBrace s) (aggregate_at r at aggregate None s) (do
  tag ← tag_at s
  cond (begins mark.LeftBrace tag.1)
      (aggregate_at r at aggregate (Some tag.0) tag.1)
      (Some (specifier.Tag at aggregate tag.0, tag.1)))

abbrev pub keyword_specifier : Rules → ℕ → Keyword → Option AggregateKind → State → Reading Specifier
keyword_specifier r at k (Some aggregate) s = tagged_at r at aggregate s
keyword_specifier r at keyword.Enum None s = enum_at r at s
keyword_specifier r at k None s = word_specifier at k >>= (λ x. Some (x, s))

abbrev pub specifier_by : Rules → TokenKind → ℕ → State → Reading Specifier
specifier_by r (kind.Keyword k) at s = keyword_specifier r at k (aggregate_of k) s
specifier_by r (kind.Identifier name) at s = Some (specifier.Typedef at name, s)
specifier_by r _ at s = None

-- the specifier that begins here, where one does
abbrev pub specifier_in : Rules → List Token → Scope → Reading Specifier
specifier_in r [] scope = None
specifier_in r (t ∷ rest) scope = specifier_by r t.kind t.start (rest, scope)

-- ---- declarators

abbrev pub a_qualifier : TokenKind → Option Qualifier
a_qualifier (kind.Keyword k) = qualifier_of k
a_qualifier _ = None

abbrev pub an_array_word : TokenKind → Option ArrayWord
an_array_word (kind.Keyword k) = array_word_of k
an_array_word _ = None

-- as many as there are
unfoldable pub run_at : {A : Type 0} → (TokenKind → Option A) → ℕ → State → Reading (List A)
run_at wanted zero s = None
run_at wanted (suc n) s = cond (begins_by wanted s.0)
    (take_by wanted s.0 s.1 >>= (λ x. run_at wanted n x.2 >>= (λ more. Some (x.0 ∷ more.0, more.1))))
    (Some ([], s))

unfoldable pub pointer_at : Rules → DeclaratorPlace → State → Reading Declarator
pointer_at r where_ s = do
  star ← expect mark.Star s
  qualifiers ← run_at a_qualifier (suc (length star.2.0)) star.2
  inner ← r.declarator where_ qualifiers.1
  Some (declarator.Pointer star.1 qualifiers.0 inner.0, inner.1)

-- an assignment expression, where something else than `]` comes next
unfoldable pub length_at : Rules → State → Reading (Option Expr)
length_at r s = cond (begins mark.RightBracket s) (Some (None, s)) (do
  e ← r.expr 15 s
  Some (Some e.0, e.1))

-- after `[`
unfoldable pub array_at : Rules → ℕ → Declarator → State → Reading Declarator
array_at r at inner s = do
  words ← run_at an_array_word (suc (length s.0)) s
  length' ← length_at r words.1
  end ← expect mark.RightBracket length'.1
  Some (declarator.Array at inner words.0 length'.0, end.2)

abbrev pub with_name : Option Name → Bool → State → State
with_name None is_type s = s
with_name (Some name) is_type s = (s.0, declared name is_type s.1)

unfoldable pub parameter_at : Rules → State → Reading Parameter
parameter_at r s = do
  xs ← specification_at r s
  d ← r.declarator place.Parameter xs.1
  Some (record { specifiers = xs.0; declarator = d.0 }, with_name (form d.0).name false d.1)

-- the parameters behind the first, and whether `...` follows the last
unfoldable pub more_parameters_at : Rules → ℕ → State → Reading (List Parameter × Bool)
more_parameters_at r zero s = None
more_parameters_at r (suc n) s = cond (begins mark.Comma s)
    (expect mark.Comma s >>= (λ c. cond (begins mark.Ellipsis c.2)
    (expect mark.Ellipsis c.2 >>= (λ e. Some (([], true), e.2)))
    (parameter_at r c.2 >>= (λ x. more_parameters_at r n x.1 >>=
    (λ more. Some ((x.0 ∷ more.0.0, more.0.1), more.1))))))
    (Some (([], false), s))

unfoldable pub parameters_at : Rules → State → Reading (List Parameter × Bool)
parameters_at r s = cond (begins mark.RightParen s) (Some (([], false), s)) (do
  first ← parameter_at r s
  more ← more_parameters_at r (suc (length first.1.0)) first.1
  Some ((first.0 ∷ more.0.0, more.0.1), more.1))

abbrev pub closed_at : DeclaratorPlace → Bool → Scope → Scope
closed_at place.Declaration false scope = left_keeping scope
closed_at _ _ scope = left scope

-- after `(`
unfoldable pub function_at : Rules → DeclaratorPlace → ℕ → Declarator → State → Reading Declarator
function_at r where_ at inner s = do
  xs ← parameters_at r (s.0, entered s.1)
  end ← expect mark.RightParen (xs.1.0, closed_at where_ (form inner).derived xs.1.1)
  Some (declarator.Function at inner xs.0.0 xs.0.1, end.2)

abbrev pub is_suffix : TokenKind → Bool
is_suffix (kind.Punctuator mark.LeftBracket) = true
is_suffix (kind.Punctuator mark.LeftParen) = true
is_suffix _ = false

abbrev pub suffixed : List Token → Bool
suffixed [] = false
suffixed (t ∷ rest) = is_suffix t.kind

abbrev pub suffix_by : Rules → DeclaratorPlace → Declarator → TokenKind → ℕ → State → Reading Declarator
suffix_by r where_ d (kind.Punctuator mark.LeftBracket) at s = array_at r at d s
suffix_by r where_ d (kind.Punctuator mark.LeftParen) at s = function_at r where_ at d s
suffix_by r where_ d _ at s = None

abbrev pub suffix_in : Rules → DeclaratorPlace → Declarator → List Token → Scope → Reading Declarator
suffix_in r where_ d [] scope = None
suffix_in r where_ d (t ∷ rest) scope = suffix_by r where_ d t.kind t.start (rest, scope)

-- the suffixes behind a declarator, each with all before it as its part
unfoldable pub suffixes_at : Rules → ℕ → DeclaratorPlace → ℕ → Declarator → State → Reading Declarator
suffixes_at r limit where_ zero d s = None
suffixes_at r limit where_ (suc n) d s = cond (suffixed s.0)
    (suffix_in r where_ d s.0 s.1 >>=
    (λ x. cond (nat_le (form x.0).height limit) (suffixes_at r limit where_ n x.0 x.1) None))
    (Some (d, s))

unfoldable pub grouped_declarator_at : Rules → DeclaratorPlace → ℕ → State → Reading Declarator
grouped_declarator_at r where_ at s = do
  inner ← r.declarator where_ s
  end ← expect mark.RightParen inner.1
  Some (declarator.Grouped at inner.0, end.2)

-- whether what stands behind `(` makes it the beginning of parameters: their end, or a type
abbrev pub begins_parameters : State → Bool
begins_parameters s = begins mark.RightParen s || specifies_in false s.0 s.1

-- where there is no name
abbrev pub omitted_at : DeclaratorPlace → State → Reading Declarator
omitted_at where_ s = cond (may_omit where_) (Some (declarator.Omitted, s)) None

abbrev pub named_declarator_at : DeclaratorPlace → ℕ → Name → State → State → Reading Declarator
named_declarator_at place.TypeName at name rest s = Some (declarator.Omitted, s)
named_declarator_at _ at name rest s = Some (declarator.Name at name, rest)

abbrev pub direct_by : Rules → DeclaratorPlace → TokenKind → ℕ → State → State → Reading Declarator
direct_by r where_ (kind.Identifier name) at rest s = named_declarator_at where_ at name rest s
direct_by r where_ (kind.Punctuator mark.LeftParen) at rest s =
    cond (may_omit where_ && begins_parameters rest)
    (Some (declarator.Omitted, s))
    (grouped_declarator_at r where_ at rest)
direct_by r where_ _ at rest s = omitted_at where_ s

abbrev pub direct_in : Rules → DeclaratorPlace → List Token → Scope → Reading Declarator
direct_in r where_ [] scope = omitted_at where_ ([], scope)
direct_in r where_ (t ∷ rest) scope = direct_by r where_ t.kind t.start (rest, scope) (t ∷ rest, scope)

unfoldable pub suffixed_at : Rules → ℕ → DeclaratorPlace → State → Reading Declarator
suffixed_at r limit where_ s =
    direct_in r where_ s.0 s.1 >>= (λ d. suffixes_at r limit where_ (suc (length d.1.0)) d.0 d.1)

unfoldable pub declarator_by : Rules → ℕ → DeclaratorPlace → State → Reading Declarator
declarator_by r limit where_ s = cond (begins mark.Star s) (pointer_at r where_ s) (suffixed_at r limit where_ s)

-- ---- expressions

-- how loosely the operator binds that the token is, behind an operand; 17 where it is none
abbrev pub binding : TokenKind → ℕ
binding (kind.Punctuator m) = binding_of m
binding (kind.StringLiteral bytes) = 0
binding _ = 17

abbrev pub binds_in : List Token → ℕ
binds_in [] = 17
binds_in (t ∷ rest) = binding t.kind

abbrev pub binds : State → ℕ
binds s = binds_in s.0

unfoldable pub more_arguments_at : Rules → ℕ → State → Reading (List Expr)
more_arguments_at r zero s = None
more_arguments_at r (suc n) s = cond (begins mark.Comma s)
    (expect mark.Comma s >>= (λ c. r.expr 15 c.2 >>= (λ x. more_arguments_at r n x.1 >>=
    (λ more. Some (x.0 ∷ more.0, more.1)))))
    (Some ([], s))

unfoldable pub arguments_at : Rules → State → Reading (List Expr)
arguments_at r s = cond (begins mark.RightParen s) (Some ([], s)) (do
  first ← r.expr 15 s
  more ← more_arguments_at r (suc (length first.1.0)) first.1
  Some (first.0 ∷ more.0, more.1))

unfoldable pub subscript_at : Rules → ℕ → Expr → State → Reading Expr
subscript_at r at left' s = do
  index ← r.expr 16 s
  end ← expect mark.RightBracket index.1
  Some (expr.Subscript at left' index.0, end.2)

unfoldable pub call_at : Rules → ℕ → Expr → State → Reading Expr
call_at r at left' s = do
  arguments ← arguments_at r s
  end ← expect mark.RightParen arguments.1
  Some (expr.Call at left' arguments.0, end.2)

unfoldable pub member_of_at : ℕ → Expr → State → Reading Expr
member_of_at at left' s = do
  name ← name_at s
  Some (expr.Member at left' name.0, name.2)

unfoldable pub arrow_at : ℕ → Expr → State → Reading Expr
arrow_at at left' s = do
  name ← name_at s
  Some (expr.Arrow at left' name.0, name.2)

unfoldable pub conditional_at : Rules → ℕ → Expr → State → Reading Expr
conditional_at r at left' s = cond (nat_le (shape left').rank 13) (do
  positive ← r.expr 16 s
  colon ← expect mark.Colon positive.1
  negative ← r.expr 14 colon.2
  Some (expr.Conditional at left' positive.0 negative.0, negative.1)) None

unfoldable pub assign_at : Rules → ℕ → Option BinaryOperator → Expr → State → Reading Expr
assign_at r at operator left' s = cond (nat_le (shape left').rank 2) (do
  value ← r.expr 15 s
  Some (expr.Assign at operator left' value.0, value.1)) None

unfoldable pub binary_at : Rules → ℕ → BinaryOperator → Expr → State → Reading Expr
binary_at r at operator left' s = do
  right ← r.expr (pred (rank_of operator)) s
  Some (expr.Binary at operator left' right.0, right.1)

unfoldable pub comma_at : Rules → ℕ → Expr → State → Reading Expr
comma_at r at left' s = do
  right ← r.expr 15 s
  Some (expr.Comma at left' right.0, right.1)

abbrev pub infix_at : Rules → ℕ → Option Infix → Expr → State → Reading Expr
infix_at r at None left' s = None
infix_at r at (Some (between.Binary operator)) left' s = binary_at r at operator left' s
infix_at r at (Some (between.Assign operator)) left' s = assign_at r at operator left' s

-- an operand, with the operator that the punctuator is, and what follows that
abbrev pub extend_by : Rules → Expr → Punctuator → ℕ → State → Reading Expr
extend_by r left' mark.LeftBracket at s = subscript_at r at left' s
extend_by r left' mark.LeftParen at s = call_at r at left' s
extend_by r left' mark.Dot at s = member_of_at at left' s
extend_by r left' mark.Arrow at s = arrow_at at left' s
extend_by r left' mark.PlusPlus at s = Some (expr.Postfix at postfix.Increment left', s)
extend_by r left' mark.MinusMinus at s = Some (expr.Postfix at postfix.Decrement left', s)
extend_by r left' mark.Question at s = conditional_at r at left' s
extend_by r left' mark.Comma at s = comma_at r at left' s
extend_by r left' m at s = infix_at r at (infix_of m) left' s

abbrev pub extend_with : Rules → Expr → TokenKind → ℕ → State → Reading Expr
extend_with r left' (kind.Punctuator m) at s = extend_by r left' m at s
extend_with r left' _ at s = None

abbrev pub extend_in : Rules → Expr → List Token → Scope → Reading Expr
extend_in r left' [] scope = None
extend_in r left' (t ∷ rest) scope = extend_with r left' t.kind t.start (rest, scope)

-- operators of this rank, one after the other, each with all before it as its left operand
unfoldable pub more_at : Rules → ℕ → ℕ → ℕ → Expr → State → Reading Expr
more_at r limit rank zero left' s = None
more_at r limit rank (suc n) left' s = cond (nat_eq (binds s) rank)
    (extend_in r left' s.0 s.1 >>= (λ e. cond (nat_le (shape e.0).height limit) (more_at r limit rank n e.0 e.1) None))
    (Some (left', s))

abbrev pub looped : Rules → ℕ → ℕ → (State → Reading Expr) → State → Reading Expr
looped r limit rank inner s = inner s >>= (λ x. more_at r limit rank (suc (length x.1.0)) x.0 x.1)

unfoldable pub parenthesized_at : Rules → ℕ → State → Reading Expr
parenthesized_at r at s = do
  inner ← r.expr 16 s
  end ← expect mark.RightParen inner.1
  Some (expr.Parenthesized at inner.0, end.2)

abbrev pub identifier_at : ℕ → Name → State → Reading Expr
identifier_at at name s = cond (is_typedef name s.1) None (Some (expr.Identifier at name, s))

unfoldable pub literal_at : ℕ → List ℕ → State → Reading Expr
literal_at at first s = do
  more ← run_at a_literal (suc (length s.0)) s
  Some (expr.StringLiteral at (first ∷ more.0), more.1)

abbrev pub primary_by : Rules → TokenKind → ℕ → State → Reading Expr
primary_by r (kind.Integer constant) at s = Some (expr.Integer at constant, s)
primary_by r kind.Floating at s = Some (expr.Floating at, s)
primary_by r (kind.Character value) at s = Some (expr.Character at value, s)
primary_by r (kind.StringLiteral bytes) at s = literal_at at bytes s
primary_by r kind.FunctionName at s = Some (expr.FunctionName at, s)
primary_by r (kind.Identifier name) at s = identifier_at at name s
primary_by r (kind.Punctuator mark.LeftParen) at s = parenthesized_at r at s
primary_by r _ at s = None

abbrev pub primary_in : Rules → List Token → Scope → Reading Expr
primary_in r [] scope = None
primary_in r (t ∷ rest) scope = primary_by r t.kind t.start (rest, scope)

abbrev pub a_unary : TokenKind → Option UnaryOperator
a_unary (kind.Punctuator m) = unary_of m
a_unary _ = None

-- whether `(` and a type come next
abbrev pub typed_in : List Token → Scope → Bool
typed_in [] scope = false
typed_in (t ∷ rest) scope = holds_some (a_mark mark.LeftParen t.kind) && specifies_in false rest scope

-- a type name in parentheses, and the offset of `(`
unfoldable pub parenthesized_type_at : Rules → State → Reading (ℕ × TypeName)
parenthesized_type_at r s = do
  start ← expect mark.LeftParen s
  named ← type_name_at r start.2
  end ← expect mark.RightParen named.1
  Some ((start.1, named.0), end.2)

-- after the word `sizeof`
unfoldable pub sizeof_at : Rules → ℕ → State → Reading Expr
sizeof_at r at s = cond (typed_in s.0 s.1)
    (parenthesized_type_at r s >>= (λ x. Some (expr.SizeofType at x.0.1, x.1)))
    (r.expr 2 s >>= (λ x. Some (expr.SizeofExpr at x.0, x.1)))

abbrev pub sized_at : Rules → State → Reading Expr
sized_at r s = expect_keyword keyword.Sizeof s >>= (λ x. sizeof_at r x.1 x.2)

unfoldable pub unary_at : Rules → State → Reading Expr
unary_at r s = do
  operator ← take_by a_unary s.0 s.1
  operand ← r.expr (operand_rank operator.0) operator.2
  Some (expr.Unary operator.1 operator.0 operand.0, operand.1)

unfoldable pub cast_at : Rules → State → Reading Expr
cast_at r s = do
  x ← parenthesized_type_at r s
  operand ← r.expr 3 x.1
  Some (expr.Cast x.0.0 x.0.1 operand.0, operand.1)

-- an expression of at most this rank and height
unfoldable pub expr_by : Rules → ℕ → ℕ → State → Reading Expr
expr_by r limit zero s = primary_in r s.0 s.1
expr_by r limit (suc zero) s = looped r limit 1 (expr_by r limit zero) s
expr_by r limit (suc (suc zero)) s =
    cond (begins_by a_unary s.0) (unary_at r s) (cond (begins_keyword keyword.Sizeof s) (sized_at r s)
    (expr_by r limit (suc zero) s))
expr_by r limit (suc (suc (suc zero))) s = cond (typed_in s.0 s.1) (cast_at r s) (expr_by r limit (suc (suc zero)) s)
expr_by r limit (suc (suc (suc (suc k)))) s =
    looped r limit (suc (suc (suc (suc k)))) (expr_by r limit (suc (suc (suc k)))) s

-- ---- trees of at most a height

abbrev pub nothing : Rules
nothing = record { expr = λ rank s. None; specifier = λ s. None; declarator = λ where_ s. None }

abbrev pub next_rules : Rules → ℕ → Rules
next_rules r limit =
    record { expr = expr_by r limit; specifier = λ s. specifier_in r s.0 s.1; declarator = declarator_by r limit }

-- trees of at most this height
unfoldable pub rules : ℕ → Rules
rules zero = nothing
rules (suc below) = next_rules (rules below) (suc below)
