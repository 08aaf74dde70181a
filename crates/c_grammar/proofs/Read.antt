-- What it is for each tree to be read where it is derived, at one height.
use Rattle.std.proofs.Common.{
  ◌≡◌,
  ◌≤◌,
  ◌<◌,
  ℕ,
  zero,
  suc,
  List,
  [],
  ◌∷◌,
  length,
  Option,
  Some,
  Bool,
  true,
  false,
  refl,
  ap,
  ◌∙◌,
  subst,
  arith,
}
use Rattle.c_language.specs.declared.token.Token.{Token}
use Rattle.c_language.specs.declared.token.TokenKind.{TokenKind}
use Rattle.c_language.specs.declared.token.TokenKind.TheVariants as kind
use Rattle.c_language.specs.declared.token.Keyword.TheVariants as keyword
use Rattle.c_language.specs.declared.token.Punctuator.TheVariants as mark
use Rattle.c_language.specs.declared.expr.Specifier.{Specifier}
use Rattle.c_language.specs.declared.expr.Declarator.{Declarator}
use Rattle.c_language.specs.declared.expr.Declarator.TheVariants as declarator
use Rattle.c_language.specs.declared.expr.TypeName.{TypeName}
use Rattle.c_language.specs.declared.expr.Parameter.{Parameter}
use Rattle.c_language.specs.declared.expr.Field.{Field}
use Rattle.c_language.specs.declared.expr.Enumerator.{Enumerator}
use Rattle.c_language.specs.declared.expr.MemberDeclaration.{MemberDeclaration}
use Rattle.c_grammar.specs.declared.declarator_place.DeclaratorPlace.{DeclaratorPlace}
use Rattle.c_grammar.specs.Parts.{Part, takes, Scope, State, Spans, specifies_by, specifies_in}
use Rattle.c_grammar.specs.Grammar.{
  Form,
  form,
  specifier_of,
  type_name_of,
  parameter_of,
  field_of,
  enumerator_of,
  member_of,
  may_omit,
  fits_place,
  ends_declarator,
  ended_in,
  specification,
  all_specified,
}
use Rattle.c_grammar.specs.Reading.{
  rules,
  begins_by,
  begins,
  binds,
  run_at,
  specifier_in,
  declarator_by,
  direct_in,
  is_suffix,
  suffixed,
  suffixes_at,
  suffixed_at,
  type_name_at,
  parameter_at,
  field_at,
  enumerator_at,
  member_at,
}
use Rattle.c_grammar.proofs.Spans.{split, one_less}
use Rattle.c_grammar.proofs.Equations.{type-name-is, parameter-is, member-is}
use Rattle.c_grammar.proofs.Begins.{taken, tall, stands, specification_begins}

-- ---- as many tokens as are wanted

-- parts that are one token for each element
pub record Spelling {A : Type 0} (wanted : TokenKind → Option A) (spelled : A → TokenKind) (parts : List A →
    List Part) : Type 0 where
  pub is : (x : A) → wanted (spelled x) ≡ Some x
  pub none : parts [] ≡ []
  pub more : (x : A) (xs : List A) → parts (x ∷ xs) ≡ takes (spelled x) ∷ parts xs

pub run_read : {A : Type 0} (wanted : TokenKind → Option A) (spelled : A → TokenKind) (parts : List A → List Part) →
    Spelling wanted spelled parts → (n : ℕ) (xs : List A) (s m : State) → length s.0 < n → Spans (parts xs) s m →
    begins_by wanted m.0 ≡ false → run_at wanted n s ≡ Some (xs, m)
unfolding run_at
run_read wanted spelled parts p zero xs s m enough y ends = absurd (omega arith)
run_read wanted spelled parts p (suc n) [] s m enough y ends =
    let e : s ≡ m = subst (λ (l : List Part). Spans l s m) p.none y in
    let f : begins_by wanted s.0 ≡ false = ap (λ (q : State). begins_by wanted q.0) e ∙ ends in
    rw f (ap (λ (q : State). Some ([], q)) e)
run_read wanted spelled parts p (suc n) (x ∷ xs) s m enough y ends =
    let y' = subst (λ (l : List Part). Spans l s m) (p.more x xs) y in
    let l = one_less y'.0 (spelled x) s.0 y'.1 y'.2 in
    let more = run_read wanted spelled parts p n xs (y'.1, s.1) m (omega arith) y'.3 ends in
    rw (taken y'.2, p.is x, more) refl

-- ---- what stands behind

-- behind a type name or a parameter
pub record Ended (z : State) : Type 0 where
  pub ended : ended_in z.0 ≡ true
  pub no_brace : begins mark.LeftBrace z ≡ false

-- behind what a member declaration says of one member
pub record FieldEnded (z : State) : Type 0 where
  pub ended : ended_in z.0 ≡ true
  pub loose : 14 < binds z
  pub no_colon : begins mark.Colon z ≡ false

-- behind an enumerator
pub record EnumeratorEnded (z : State) : Type 0 where
  pub loose : 14 < binds z
  pub no_equal : begins mark.Equal z ≡ false

ends_suffix : (k : TokenKind) → ends_declarator k ≡ true → is_suffix k ≡ false
ends_suffix (kind.Punctuator mark.LeftBracket) h = cc
ends_suffix (kind.Punctuator mark.LeftParen) h = cc
ends_suffix _ h = refl

pub ended_suffix : (tokens : List Token) → ended_in tokens ≡ true → suffixed tokens ≡ false
ended_suffix [] h = refl
ended_suffix (t ∷ rest) h = ends_suffix t.kind h

ends_typed : (scope : Scope) (typed : Bool) (k : TokenKind) → ends_declarator k ≡ true → specifies_by scope typed k ≡
    false
ends_typed scope typed (kind.Keyword keyword.Asm) h = refl
ends_typed scope typed (kind.Identifier name) h = cc
ends_typed scope typed (kind.Punctuator m) h = refl
ends_typed scope typed _ h = cc

pub ended_typed : (typed : Bool) (tokens : List Token) (scope : Scope) → ended_in tokens ≡ true → specifies_in typed
    tokens scope ≡ false
ended_typed typed [] scope h = refl
ended_typed typed (t ∷ rest) scope h = ends_typed scope typed t.kind h

-- ---- specifiers

abbrev pub SpecifierRead : Specifier → Type 0
SpecifierRead x =
    (below : ℕ) (typed : Bool) (s z : State) → Spans ((specifier_of x).parts typed) s z → (specifier_of x).height ≤
    suc below → begins mark.LeftBrace z ≡ false → specifier_in (rules below) s.0 s.1 ≡ Some (x, z)

pub inner_specifier : (x : Specifier) → SpecifierRead x → (below : ℕ) (typed : Bool) (s z : State) →
    Spans ((specifier_of x).parts typed) s z → (specifier_of x).height ≤ below → begins mark.LeftBrace z ≡ false →
    (rules below).specifier s ≡ Some (x, z)
unfolding rules
inner_specifier x a zero typed s z y low h = let t = tall x in absurd (omega arith)
inner_specifier x a (suc below) typed s z y low h = a below typed s z y low h

-- ---- declarators

-- what stands here is read as a declarator that is omitted, where one may be
abbrev pub Omits : ℕ → DeclaratorPlace → State → Type 0
Omits below where_ z = may_omit where_ ≡ true → direct_in (rules below) where_ z.0 z.1 ≡ Some (declarator.Omitted, z)

-- the declarator is read, and then the suffixes behind it
pub record DeclaratorReach (below : ℕ) (where_ : DeclaratorPlace) (s : State) (d : Declarator) (z : State) : Type 0
  where
    pub bound : ℕ
    pub enough : length z.0 < bound
    pub reads : suffixed_at (rules below) (suc below) where_ s ≡ suffixes_at (rules below) (suc below) where_ bound d z

pub record DeclaratorBase (d : Declarator) (h : Form) : Type 0 where
  pub ends : (below : ℕ) (where_ : DeclaratorPlace) (s z : State) → Spans (h.parts where_) s z → fits_place where_ h ≡
      true → h.height ≤ suc below → ended_in z.0 ≡ true → declarator_by (rules below) (suc below) where_ s ≡ Some
      (d, z)
  pub reach : (below : ℕ) (where_ : DeclaratorPlace) (s z : State) → Spans (h.parts where_) s z → fits_place where_
      h ≡ true → h.height ≤ suc below → h.rank ≤ 1 → Omits below where_ z → DeclaratorReach below where_ s d z

abbrev pub DeclaratorRead : Declarator → Type 0
DeclaratorRead d = DeclaratorBase d (form d)

pub inner_declarator : (d : Declarator) → DeclaratorRead d → (below : ℕ) (where_ : DeclaratorPlace) (s z : State) →
    Spans ((form d).parts where_) s z → fits_place where_ (form d) ≡ true → (form d).height ≤ below → ended_in z.0 ≡
    true → (rules below).declarator where_ s ≡ Some (d, z)
unfolding rules
inner_declarator d a zero where_ s z x fits low h = absurd (omega (arith, (stands d).tall))
inner_declarator d a (suc below) where_ s z x fits low h = a.ends below where_ s z x fits low h

-- ---- what has no height of its own

abbrev pub TypeNameRead : TypeName → Type 0
TypeNameRead x =
    (below : ℕ) (s z : State) → Spans (type_name_of x).parts s z → (type_name_of x).height ≤ below → Ended z →
    type_name_at (rules below) s ≡ Some (x, z)

abbrev pub ParameterRead : Parameter → Type 0
ParameterRead x =
    (below : ℕ) (s z : State) → Spans (parameter_of x).parts s z → (parameter_of x).height ≤ below → Ended z →
    parameter_at (rules below) s ≡ Some (x, z)

-- how a member's declarator or width begins
pub record FieldStart (s : State) : Type 0 where
  pub no_type : specifies_in true s.0 s.1 ≡ false
  pub no_brace : begins mark.LeftBrace s ≡ false
  pub no_semicolon : begins mark.Semicolon s ≡ false

pub record FieldRead (x : Field) : Type 0 where
  pub starts : (s z : State) → Spans (field_of x).parts s z → FieldStart s
  pub reads : (below : ℕ) (s z : State) → Spans (field_of x).parts s z → (field_of x).height ≤ below → FieldEnded z →
      field_at (rules below) s ≡ Some (x, z)

abbrev pub EnumeratorRead : Enumerator → Type 0
EnumeratorRead x =
    (below : ℕ) (s z : State) → Spans (enumerator_of x).parts s z → (enumerator_of x).height ≤ below → EnumeratorEnded
    z → enumerator_at (rules below) s ≡ Some (x, z)

abbrev pub MemberRead : MemberDeclaration → Type 0
MemberRead x =
    (below : ℕ) (s z : State) → Spans (member_of x).parts s z → (member_of x).height ≤ below → member_at (rules below)
    s ≡ Some (x, z)

-- ---- they begin with a specifier

pub type_name_begins : (x : TypeName) (s z : State) → Spans (type_name_of x).parts s z → specifies_in false s.0 s.1 ≡
    true
type_name_begins x s z =
    rw type-name-is (λ (y : _). let p = split (specification (all_specified x.specifiers)) _ s z y in
    (specification_begins x.specifiers s p.0 p.1).0)

pub parameter_begins : (x : Parameter) (s z : State) → Spans (parameter_of x).parts s z → specifies_in false s.0 s.1 ≡
    true
parameter_begins x s z =
    rw parameter-is (λ (y : _). let p = split (specification (all_specified x.specifiers)) _ s z y in
    (specification_begins x.specifiers s p.0 p.1).0)

pub member_begins : (x : MemberDeclaration) (s z : State) → Spans (member_of x).parts s z → specifies_in false s.0
    s.1 ≡ true
member_begins x s z =
    rw member-is (λ (y : _). let p = split (specification (all_specified x.specifiers)) _ s z y in
    (specification_begins x.specifiers s p.0 p.1).0)
