-- How initializers and declarations begin, and what stands behind their parts.
use Rattle.std.proofs.Common.{
  ◌≡◌,
  ◌≤◌,
  ◌<◌,
  ℕ,
  List,
  [],
  ◌∷◌,
  ◌++◌,
  length,
  Option,
  Some,
  None,
  Bool,
  true,
  false,
  refl,
  sym,
  ap,
  ◌∙◌,
  subst,
  arith,
  cond,
  append_assoc,
  ◌⊎◌,
  inl,
  inr,
}
use Rattle.std.specs.Prelude.{map, ◌&&◌}
use denote.Enum.Bare.{sameb}
use Rattle.c_language.specs.declared.token.Token.{Token}
use Rattle.c_language.specs.declared.token.TokenKind.{TokenKind}
use Rattle.c_language.specs.declared.token.TokenKind.TheVariants as kind
use Rattle.c_language.specs.declared.token.Keyword.TheVariants as keyword
use Rattle.c_language.specs.declared.token.Punctuator.{Punctuator}
use Rattle.c_language.specs.declared.token.Punctuator.TheVariants as mark
use Rattle.c_language.specs.contracts.token.Punctuator.{the_type as punctuator_type}
use Rattle.c_language.specs.declared.expr.Expr.{Expr}
use Rattle.c_language.specs.declared.expr.Specifier.{Specifier}
use Rattle.c_language.specs.declared.expr.Declarator.{Declarator}
use Rattle.c_language.specs.declared.unit.Initializer.{Initializer}
use Rattle.c_language.specs.declared.unit.InitDeclarator.{InitDeclarator}
use Rattle.c_language.specs.declared.unit.Declaration.{Declaration}
use Rattle.c_grammar.specs.declared.declarator_place.DeclaratorPlace.TheVariants as place
use Rattle.c_grammar.specs.Parts.{Part, declares, State, Takes, Spans, specifies_in, is_punctuator, forgetting}
use Rattle.c_grammar.specs.Grammar.{
  Derives,
  DerivesDeclarator,
  form,
  ended_in,
  all_specified,
  specification,
  highest_specifier,
  takes_mark,
  later,
  is_named,
}
use Rattle.c_grammar.specs.Reading.{Rules, a_mark, begins, begins_keyword, binds, holds_some, specification_at}
use Rattle.c_grammar.specs.Units.{
  makes_types,
  name_of,
  declaring_parts,
  assembler_parts,
  initializer_parts,
  rest_parts,
  init_piece,
  init_list_parts,
  declaration_of,
}
use Rattle.c_grammar.specs.UnitReading.{labelled, is_name, next_colon}
use Rattle.c_grammar.proofs.Spans.{split, no_more}
use Rattle.c_grammar.proofs.Begins.{
  taken,
  colon_in,
  labelled as labelled_so,
  is_name as is_name_so,
  declares_in,
  heads,
  stands,
  NoSpecifier,
  no_specifier,
  specification_begins,
}

-- how expressions, specifiers and declarators are read is complete
pub record CompleteBelow (limit : ℕ) (r : Rules) : Type 0 where
  pub expr : (rank : ℕ) (s z : State) (e : Expr) → Derives limit rank s e z → rank < binds z → r.expr rank s ≡ Some
      (e, z)
  pub specifiers : (s z : State) (xs : List Specifier) → Spans (specification (all_specified xs)) s z →
      highest_specifier (all_specified xs) ≤ limit → specifies_in true z.0 z.1 ≡ false → begins mark.LeftBrace z ≡
      false → specification_at r s ≡ Some (xs, z)
  pub declarator : (s z : State) (d : Declarator) → DerivesDeclarator limit place.Declaration s d z → ended_in z.0 ≡
      true → r.declarator place.Declaration s ≡ Some (d, z)

pub split_first : (a b c : List Part) (s z : State) → Spans ((a ++ b) ++ c) s z → (m : State) × Spans a s m × Spans
    (b ++ c) m z
split_first a b c s z x = split a (b ++ c) s z (subst (λ (l : List Part). Spans l s z) (append_assoc a b c) x)

-- ---- marks and labels

holds_cond : (b : Bool) → holds_some {A = Unit {0}} (cond b (Some tt) None) ≡ b
holds_cond true = refl
holds_cond false = refl

pub mark_same : (wanted : Punctuator) (k : TokenKind) → holds_some (a_mark wanted k) ≡ is_punctuator wanted k
mark_same wanted (kind.Punctuator n) = holds_cond (sameb punctuator_type n wanted)
mark_same wanted _ = refl

pub colon_same : (tokens : List Token) → colon_in tokens ≡ next_colon tokens
colon_same [] = refl
colon_same (t ∷ rest) = mark_same mark.Colon t.kind

name_same : (k : TokenKind) → is_name_so k ≡ is_name k
name_same (kind.Identifier name) = refl
name_same _ = refl

pub labelled_same : (tokens : List Token) → labelled_so tokens ≡ labelled tokens
labelled_same [] = refl
labelled_same (t ∷ rest) =
    ap (λ b. b && colon_in rest) (name_same t.kind) ∙ ap (λ b. is_name t.kind && b) (colon_same rest)

-- ---- what stands behind an initialized declarator

pub record AfterInit (m : State) : Type 0 where
  pub ended : ended_in m.0 ≡ true
  pub no_brace : begins mark.LeftBrace m ≡ false
  pub no_equal : begins mark.Equal m ≡ false
  pub no_asm : begins_keyword keyword.Asm m ≡ false
  pub loose : 15 < binds m

pub by_semicolon : (m : State) (at : ℕ) (rest : List Token) → Takes at (kind.Punctuator mark.Semicolon) m.0 rest →
    AfterInit m
by_semicolon m at rest t =
    record {
      ended = rw (taken t) refl;
      no_brace = rw (taken t) refl;
      no_equal = rw (taken t) refl;
      no_asm = rw (taken t) refl;
      loose = rw (taken t) (omega arith);
    }

pub by_later : (is_type : Bool) (ds : List InitDeclarator) (s m : State) → Spans (later (map (init_piece is_type) ds))
    s m → AfterInit m → AfterInit s
by_later is_type [] s m y b = subst (λ (q : State). AfterInit q) (sym y) b
by_later is_type (d ∷ ds) s m y b =
    record {
      ended = rw (taken y.2) refl;
      no_brace = rw (taken y.2) refl;
      no_equal = rw (taken y.2) refl;
      no_asm = rw (taken y.2) refl;
      loose = rw (taken y.2) (omega arith);
    }

-- between a declarator and its initializer
pub record AfterDeclarator (s : State) : Type 0 where
  pub ended : ended_in s.0 ≡ true
  pub no_brace : begins mark.LeftBrace s ≡ false

pub by_initializer : (x : Option Initializer) (s m : State) → Spans (initializer_parts x) s m → AfterInit m →
    AfterDeclarator s × (begins_keyword keyword.Asm s ≡ false)
by_initializer None s m y b =
    subst (λ (q : State). AfterDeclarator q × (begins_keyword keyword.Asm q ≡ false)) (sym y) (
      record {
        ended = b.ended;
        no_brace = b.no_brace;
      },
      b.no_asm,
    )
by_initializer (Some x) s m y b =
    (record { ended = rw (taken y.2) refl; no_brace = rw (taken y.2) refl }, rw (taken y.2) refl)

by_rest_parts : (label : List (List ℕ)) (x : Option Initializer) (s m : State) → Spans (assembler_parts label ++
    initializer_parts x) s m → AfterInit m → AfterDeclarator s
by_rest_parts [] x s m y b = (by_initializer x s m y b).0
by_rest_parts (p ∷ ps) x s m y b = record { ended = rw (taken y.2) refl; no_brace = rw (taken y.2) refl }

pub by_rest : (d : InitDeclarator) (s m : State) → Spans (rest_parts d) s m → AfterInit m → AfterDeclarator s
by_rest d s m y b = by_rest_parts d.assembler_name d.initializer s m y b

-- ---- how declarations begin

named_begins : (d : Declarator) (s m : State) → is_named (form d) ≡ true → (declares_in s.0 ≡ true) ⊎
    (((form d).omitted ≡ true) × (s ≡ m)) → declares_in s.0 ≡ true
named_begins d s m n (inl h) = h
named_begins d s m n (inr h) = let e : true ≡ false = sym h.0 ∙ (stands d).present n in cc

pub declaring_begins : (is_type : Bool) (d : Declarator) (s z : State) → Spans (declaring_parts is_type d) s z →
    NoSpecifier s.0
declaring_begins is_type d s z x =
    let p = split ((form d).parts place.Declaration) (declares (name_of (form d)) is_type ∷ []) (s.0, forgetting s.1)
    z x.1 in
    no_specifier s.0 (named_begins d (s.0, forgetting s.1) p.0 x.0 ((heads d).any place.Declaration
    (s.0, forgetting s.1) p.0 p.1))

-- a declaration's parts, where it declares something
pub record Pieces (xs : List Specifier) (d : InitDeclarator) (ds : List InitDeclarator) (s z : State) : Type 0 where
  pub named : State
  pub declared : State
  pub first : State
  pub listed : State
  pub specifiers : Spans (specification (all_specified xs)) s named
  pub behind : Spans (init_list_parts (map (init_piece (makes_types xs)) (d ∷ ds)) ++ takes_mark mark.Semicolon ∷ [])
      named z
  pub declaring : Spans (declaring_parts (makes_types xs) d.declarator) named declared
  pub rest : Spans (rest_parts d) declared first
  pub more : Spans (later (map (init_piece (makes_types xs)) ds)) first listed
  pub ends : Spans (takes_mark mark.Semicolon ∷ []) listed z

pub pieces : (xs : List Specifier) (d : InitDeclarator) (ds : List InitDeclarator) (s z : State) →
    Spans (declaration_of (record { specifiers = xs; declarators = d ∷ ds })).parts s z → Pieces xs d ds s z
unfolding declaration_of
pieces xs d ds s z x =
    let t = makes_types xs in
    let f = declaring_parts t d.declarator in
    let l = later (map (init_piece t) ds) in
    let p = split (specification (all_specified xs)) (((f ++ rest_parts d) ++ l) ++ takes_mark mark.Semicolon ∷ []) s
    z x in
    let q = split ((f ++ rest_parts d) ++ l) (takes_mark mark.Semicolon ∷ []) p.0 z p.2 in
    let r = split (f ++ rest_parts d) l p.0 q.0 q.1 in
    let u = split f (rest_parts d) p.0 r.0 r.1 in
    record {
      named = p.0;
      declared = u.0;
      first = r.0;
      listed = q.0;
      specifiers = p.1;
      behind = p.2;
      declaring = u.1;
      rest = u.2;
      more = r.2;
      ends = q.2;
    }

pub after_first : (xs : List Specifier) (d : InitDeclarator) (ds : List InitDeclarator) (s z : State)
    (p : Pieces xs d ds s z) → AfterInit p.first
after_first xs d ds s z p =
    by_later (makes_types xs) ds p.first p.listed p.more (by_semicolon p.listed p.ends.0 p.ends.1 p.ends.2)

-- how a declaration begins, and that it takes a token
pub record Declares (s z : State) : Type 0 where
  pub specifies : specifies_in false s.0 s.1 ≡ true
  pub unlabelled : labelled s.0 ≡ false
  pub less : length z.0 < length s.0

declares_behind : (xs : List Specifier) (ps : List Part) (s m z : State) → Spans (specification (all_specified xs)) s
    m → colon_in m.0 ≡ false → Spans ps m z → Declares s z
declares_behind xs ps s m z x c y =
    let b = specification_begins xs s m x in
    let l = no_more ps m z y in
    record { specifies = b.0; unlabelled = sym (labelled_same s.0) ∙ b.2 c; less = omega (arith, b.1) }

begins_by_parts : (xs : List Specifier) (ds : List InitDeclarator) (s z : State) →
    Spans (declaration_of (record { specifiers = xs; declarators = ds })).parts s z → Declares s z
unfolding declaration_of
begins_by_parts xs [] s z x =
    let p = split (specification (all_specified xs)) (takes_mark mark.Semicolon ∷ []) s z x in
    declares_behind xs (takes_mark mark.Semicolon ∷ []) s p.0 z p.1 (rw (taken p.2.2) refl) p.2
begins_by_parts xs (d ∷ ds) s z x =
    let q = pieces xs d ds s z x in
    declares_behind xs (init_list_parts (map (init_piece (makes_types xs)) (d ∷ ds)) ++ takes_mark mark.Semicolon ∷
    []) s q.named z q.specifiers (declaring_begins (makes_types xs) d.declarator q.named q.declared q.declaring).colon
    q.behind

pub declaration_begins : (d : Declaration) (s z : State) → Spans (declaration_of d).parts s z → Declares s z
declaration_begins d s z x = begins_by_parts d.specifiers d.declarators s z x
