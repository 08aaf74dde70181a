-- Steps that the laws of units share, and what they take from those of expressions, specifiers and declarators.
use Rattle.std.proofs.Common.{
  ◌≡◌,
  ◌≤◌,
  ℕ,
  List,
  [],
  ◌∷◌,
  ◌++◌,
  Some,
  None,
  Bool,
  true,
  false,
  refl,
  sym,
  ap,
  subst,
  cond,
  append_assoc,
}
use Rattle.std.proofs.lemmas.Option.{same_Some}
use denote.Enum.Bare.{sameb}
use Rattle.c_language.specs.declared.token.Token.{Token}
use Rattle.c_language.specs.declared.token.TokenKind.{TokenKind}
use Rattle.c_language.specs.declared.token.TokenKind.TheVariants as kind
use Rattle.c_language.specs.declared.token.Keyword.{Keyword}
use Rattle.c_language.specs.contracts.token.Keyword.{the_type as keyword_type}
use Rattle.c_language.specs.declared.expr.Expr.{Expr}
use Rattle.c_language.specs.declared.expr.Specifier.{Specifier}
use Rattle.c_language.specs.declared.expr.Declarator.{Declarator}
use Rattle.c_grammar.specs.declared.declarator_place.DeclaratorPlace.{DeclaratorPlace}
use Rattle.c_grammar.specs.Parts.{Part, takes, State, Spans, is_keyword, next_is}
use Rattle.c_grammar.specs.Grammar.{
  Piece,
  Derives,
  DerivesDeclarator,
  all_specified,
  specification,
  highest_specifier,
  more_literals,
}
use Rattle.c_grammar.specs.Reading.{
  Rules,
  take_by,
  a_keyword,
  a_literal,
  expect_keyword,
  begins_by,
  holds_some,
  specification_at,
}
use Rattle.c_grammar.proofs.Spans.{join, take, taken_as, took, expected_keyword, SpelledBy}

-- how expressions, specifiers and declarators are read is sound
pub record SoundBelow (limit : ℕ) (r : Rules) : Type 0 where
  pub expr : (rank : ℕ) (s z : State) (e : Expr) → r.expr rank s ≡ Some (e, z) → Derives limit rank s e z
  pub specifiers : (s z : State) (xs : List Specifier) → specification_at r s ≡ Some (xs, z) →
      Spans (specification (all_specified xs)) s z × (highest_specifier (all_specified xs) ≤ limit)
  pub declarator : (where_ : DeclaratorPlace) (s z : State) (d : Declarator) → r.declarator where_ s ≡ Some (d, z) →
      DerivesDeclarator limit where_ s d z

-- what holds of the answer holds of what is read
pub found : {A : Type 0} (P : A → Type 0) (x y : A) → Some x ≡ Some y → P x → P y
found P x y e p = subst P (same_Some x y e) p

-- a piece stands between two states, and is at most so high
abbrev pub Made : ℕ → Piece → State → State → Type 0
Made limit p s z = Spans p.parts s z × (p.height ≤ limit)

pub made_as : (limit : ℕ) (p q : Piece) (s z : State) → p ≡ q → Made limit q s z → Made limit p s z
made_as limit p q s z e x = subst (λ (y : Piece). Made limit y s z) (sym e) x

pub join_first : (a b c : List Part) (s m z : State) → Spans a s m → Spans (b ++ c) m z → Spans ((a ++ b) ++ c) s z
join_first a b c s m z x y =
    subst (λ (l : List Part). Spans l s z) (sym (append_assoc a b c)) (join a (b ++ c) s m z x y)

pub expects_keyword : (k : Keyword) (ps : List Part) (s z : State) (x : Unit {0} × ℕ × State) → expect_keyword k s ≡
    Some x → Spans ps x.2 z → Spans (takes (kind.Keyword k) ∷ ps) s z
expects_keyword k ps s z x h y = let e = expected_keyword k s x h in take x.1 (kind.Keyword k) ps s x.2 z e.0 e.1 y

pub literal_is : (k : TokenKind) (bytes : List ℕ) → a_literal k ≡ Some bytes → k ≡ kind.StringLiteral bytes
literal_is (kind.StringLiteral n) bytes h = ap (λ x. kind.StringLiteral x) (same_Some n bytes h)
literal_is _ bytes h = cc

pub expects_literal : (ps : List Part) (s z : State) (x : List ℕ × ℕ × State) → take_by a_literal s.0 s.1 ≡ Some x →
    Spans ps x.2 z → Spans (takes (kind.StringLiteral x.0) ∷ ps) s z
expects_literal ps s z x h y =
    let t = took a_literal s x h in
    take x.1 (kind.StringLiteral x.0) ps s x.2 z (taken_as x.1 t.kind (kind.StringLiteral x.0) s.0 x.2.0
    (literal_is t.kind x.0 t.wants) t.taken) t.scope y

pub literals_spelled : SpelledBy a_literal (λ bytes. kind.StringLiteral bytes) more_literals
literals_spelled = record { is = literal_is; none = refl; more = λ x xs. refl }

holds_cond : (b : Bool) → holds_some {A = Unit {0}} (cond b (Some tt) None) ≡ b
holds_cond true = refl
holds_cond false = refl

keyword_same : (wanted : Keyword) (k : TokenKind) → holds_some (a_keyword wanted k) ≡ is_keyword wanted k
keyword_same wanted (kind.Keyword n) = holds_cond (sameb keyword_type n wanted)
keyword_same wanted _ = refl

pub next_same : (wanted : Keyword) (tokens : List Token) → begins_by (a_keyword wanted) tokens ≡ next_is wanted tokens
next_same wanted [] = refl
next_same wanted (t ∷ rest) = keyword_same wanted t.kind
