-- Parts one after the other, and the tokens that they take.
use Rattle.std.proofs.Common.{
  ◌≡◌,
  ◌≤◌,
  ℕ,
  zero,
  suc,
  List,
  [],
  ◌∷◌,
  ◌++◌,
  length,
  Option,
  Some,
  None,
  Bool,
  true,
  false,
  refl,
  sym,
  ap,
  ◌∙◌,
  subst,
  arith,
  rules,
  ◌⊎◌,
  inl,
  inr,
  cond,
}
use Rattle.std.specs.Prelude.{nat_eq, nat_le, ◌&&◌}
use Rattle.std.proofs.lemmas.Option.{same_Some, cond_some}
use denote.Enum.Bare.{same_true, sameb}
use Rattle.c_language.specs.declared.token.Token.{Token}
use Rattle.c_language.specs.declared.token.TokenKind.{TokenKind}
use Rattle.c_language.specs.declared.token.TokenKind.TheVariants as kind
use Rattle.c_language.specs.declared.token.Keyword.{Keyword}
use Rattle.c_language.specs.declared.token.Punctuator.{Punctuator}
use Rattle.c_language.specs.contracts.token.Keyword.{the_type as keyword_type}
use Rattle.c_language.specs.contracts.token.Punctuator.{the_type as punctuator_type}
use Rattle.c_grammar.specs.Parts.{
  Name,
  Part,
  takes,
  takes_at,
  at_most,
  holds,
  typedef_name,
  ordinary,
  declares,
  opens,
  closes,
  keeps,
  forgets,
  opens_function,
  no_type,
  unless,
  Scope,
  declared,
  entered,
  left,
  left_keeping,
  forgetting,
  entered_function,
  State,
  Takes,
  Spans,
}
use Rattle.c_grammar.specs.Reading.{
  ◌>>=◌,
  take_by,
  a_mark,
  a_keyword,
  a_name,
  expect,
  expect_keyword,
  name_at,
  begins_by,
  run_at,
}

-- ---- parts one after the other

pub join : (a b : List Part) (s m z : State) → Spans a s m → Spans b m z → Spans (a ++ b) s z
join [] b s m z x y = subst (λ (p : State). Spans b p z) (sym x) y
join (takes k ∷ ps) b s m z x y = (x.0, x.1, x.2, join ps b _ m z x.3 y)
join (takes_at at k ∷ ps) b s m z x y = (x.0, x.1, join ps b _ m z x.2 y)
join (at_most i j ∷ ps) b s m z x y = (x.0, join ps b s m z x.1 y)
join (holds c ∷ ps) b s m z x y = (x.0, join ps b s m z x.1 y)
join (typedef_name name ∷ ps) b s m z x y = (x.0, join ps b s m z x.1 y)
join (ordinary name ∷ ps) b s m z x y = (x.0, join ps b s m z x.1 y)
join (no_type ∷ ps) b s m z x y = (x.0, join ps b s m z x.1 y)
join (unless k ∷ ps) b s m z x y = (x.0, join ps b s m z x.1 y)
join (declares name is_type ∷ ps) b s m z x y = join ps b _ m z x y
join (opens ∷ ps) b s m z x y = join ps b _ m z x y
join (closes ∷ ps) b s m z x y = join ps b _ m z x y
join (keeps ∷ ps) b s m z x y = join ps b _ m z x y
join (forgets ∷ ps) b s m z x y = join ps b _ m z x y
join (opens_function ∷ ps) b s m z x y = join ps b _ m z x y

pub split : (a b : List Part) (s z : State) → Spans (a ++ b) s z → (m : State) × Spans a s m × Spans b m z
split [] b s z x = (s, refl, x)
split (takes k ∷ ps) b s z x = let r = split ps b _ z x.3 in (r.0, (x.0, x.1, x.2, r.1), r.2)
split (takes_at at k ∷ ps) b s z x = let r = split ps b _ z x.2 in (r.0, (x.0, x.1, r.1), r.2)
split (at_most i j ∷ ps) b s z x = let r = split ps b s z x.1 in (r.0, (x.0, r.1), r.2)
split (holds c ∷ ps) b s z x = let r = split ps b s z x.1 in (r.0, (x.0, r.1), r.2)
split (typedef_name name ∷ ps) b s z x = let r = split ps b s z x.1 in (r.0, (x.0, r.1), r.2)
split (ordinary name ∷ ps) b s z x = let r = split ps b s z x.1 in (r.0, (x.0, r.1), r.2)
split (no_type ∷ ps) b s z x = let r = split ps b s z x.1 in (r.0, (x.0, r.1), r.2)
split (unless k ∷ ps) b s z x = let r = split ps b s z x.1 in (r.0, (x.0, r.1), r.2)
split (declares name is_type ∷ ps) b s z x = split ps b _ z x
split (opens ∷ ps) b s z x = split ps b _ z x
split (closes ∷ ps) b s z x = split ps b _ z x
split (keeps ∷ ps) b s z x = split ps b _ z x
split (forgets ∷ ps) b s z x = split ps b _ z x
split (opens_function ∷ ps) b s z x = split ps b _ z x

-- a token taken is one token less
pub one_less : (at : ℕ) (k : TokenKind) (before after : List Token) → Takes at k before after → length before ≡ suc
    (length after)
one_less at k before after t = ap length t.is

-- parts only take tokens
pub no_more : (a : List Part) (s z : State) → Spans a s z → length z.0 ≤ length s.0
no_more [] s z x = rw x (omega arith)
no_more (takes k ∷ ps) s z x = let h = one_less x.0 k s.0 x.1 x.2 in omega (arith, h, no_more ps _ z x.3)
no_more (takes_at at k ∷ ps) s z x = let h = one_less at k s.0 x.0 x.1 in omega (arith, h, no_more ps _ z x.2)
no_more (at_most i j ∷ ps) s z x = no_more ps s z x.1
no_more (holds c ∷ ps) s z x = no_more ps s z x.1
no_more (typedef_name name ∷ ps) s z x = no_more ps s z x.1
no_more (ordinary name ∷ ps) s z x = no_more ps s z x.1
no_more (no_type ∷ ps) s z x = no_more ps s z x.1
no_more (unless k ∷ ps) s z x = no_more ps s z x.1
no_more (declares name is_type ∷ ps) s z x = no_more ps (s.0, declared name is_type s.1) z x
no_more (opens ∷ ps) s z x = no_more ps (s.0, entered s.1) z x
no_more (closes ∷ ps) s z x = no_more ps (s.0, left s.1) z x
no_more (keeps ∷ ps) s z x = no_more ps (s.0, left_keeping s.1) z x
no_more (forgets ∷ ps) s z x = no_more ps (s.0, forgetting s.1) z x
no_more (opens_function ∷ ps) s z x = no_more ps (s.0, entered_function s.1) z x

-- ---- steps of a reading

pub bind_some : {A B : Type 0} (o : Option A) (f : A → Option B) (y : B) → (o >>= f) ≡ Some y →
    (x : A) × (o ≡ Some x) × (f x ≡ Some y)
bind_some None f y h = cc
bind_some (Some x) f y h = (x, refl, h)

pub chosen : {A : Type 0} (b : Bool) (x y z : A) → cond b x y ≡ z → ((b ≡ true) × (x ≡ z)) ⊎ ((b ≡ false) × (y ≡ z))
chosen true x y z h = inl (refl, h)
chosen false x y z h = inr (refl, h)

pub guarded : {A : Type 0} (b : Bool) (x : Option A) (y : A) → cond b x None ≡ Some y → (b ≡ true) × (x ≡ Some y)
guarded true x y h = (refl, h)
guarded false x y h = cc

pub both : (a b : Bool) → (a && b) ≡ true → (a ≡ true) × (b ≡ true)
both true b h = (refl, h)
both false b h = cc

pub nat_le_true : (m n : ℕ) → nat_le m n ≡ true → m ≤ n
nat_le_true m n h = grind arith

pub nat_eq_true : (m n : ℕ) → nat_eq m n ≡ true → m ≡ n
nat_eq_true m n h = grind arith

-- ---- tokens taken

pub first_taken : (t : Token) (rest : List Token) → Takes t.start t.kind (t ∷ rest) rest
first_taken t rest = record { first = t; is = refl; start = refl; kind = refl }

pub taken_as : (at : ℕ) (k k' : TokenKind) (before after : List Token) → k ≡ k' → Takes at k before after →
    Takes at k' before after
taken_as at k k' before after e t = record { first = t.first; is = t.is; start = t.start; kind = t.kind ∙ e }

-- a token that a reading took
pub record Took {A : Type 0} (wanted : TokenKind → Option A) (s : State) (x : A × ℕ × State) : Type 0 where
  pub kind : TokenKind
  pub taken : Takes x.1 kind s.0 x.2.0
  pub scope : s.1 ≡ x.2.1
  pub wants : wanted kind ≡ Some x.0

took_in : {A : Type 0} (wanted : TokenKind → Option A) (tokens : List Token) (scope : Scope) (x : A × ℕ × State) →
    take_by wanted tokens scope ≡ Some x → Took wanted (tokens, scope) x
took_in wanted [] scope x h = cc
took_in {A} wanted (t ∷ rest) scope x h =
    let a = bind_some (wanted t.kind) _ _ h in
    subst (λ (p : A × ℕ × State). Took wanted (t ∷ rest, scope) p) (same_Some (a.0, t.start, (rest, scope)) x a.2)
    (record {
      kind = t.kind;
      taken = first_taken t rest;
      scope = refl;
      wants = a.1;
    })

pub took : {A : Type 0} (wanted : TokenKind → Option A) (s : State) (x : A × ℕ × State) → take_by wanted s.0 s.1 ≡
    Some x → Took wanted s x
took wanted s x h = took_in wanted s.0 s.1 x h

pub mark_is : (m : Punctuator) (k : TokenKind) → a_mark m k ≡ Some tt → k ≡ kind.Punctuator m
mark_is m (kind.Punctuator n) h =
    ap (λ x. kind.Punctuator x) (same_true punctuator_type (search rules) n m (cond_some (sameb punctuator_type n m)
    tt tt h).0)
mark_is m _ h = cc

pub keyword_is : (wanted : Keyword) (k : TokenKind) → a_keyword wanted k ≡ Some tt → k ≡ kind.Keyword wanted
keyword_is wanted (kind.Keyword n) h =
    ap (λ x. kind.Keyword x) (same_true keyword_type (search rules) n wanted (cond_some (sameb keyword_type n wanted)
    tt tt h).0)
keyword_is wanted _ h = cc

pub name_is : (k : TokenKind) (name : Name) → a_name k ≡ Some name → k ≡ kind.Identifier name
name_is (kind.Identifier n) name h = ap (λ x. kind.Identifier x) (same_Some n name h)
name_is _ name h = cc

-- one token more, in front of parts
pub take_at : (at : ℕ) (k : TokenKind) (ps : List Part) (s m z : State) → Takes at k s.0 m.0 → s.1 ≡ m.1 →
    Spans ps m z → Spans (takes_at at k ∷ ps) s z
take_at at k ps s m z e f x = (m.0, e, subst (λ (c : Scope). Spans ps (m.0, c) z) (sym f) x)

pub take : (at : ℕ) (k : TokenKind) (ps : List Part) (s m z : State) → Takes at k s.0 m.0 → s.1 ≡ m.1 → Spans ps m z →
    Spans (takes k ∷ ps) s z
take at k ps s m z e f x = (at, m.0, e, subst (λ (c : Scope). Spans ps (m.0, c) z) (sym f) x)

pub expected : (m : Punctuator) (s : State) (x : Unit {0} × ℕ × State) → expect m s ≡ Some x →
    Takes x.1 (kind.Punctuator m) s.0 x.2.0 × (s.1 ≡ x.2.1)
expected m s x h =
    let t = took (a_mark m) s x h in (
      taken_as x.1 t.kind (kind.Punctuator m) s.0 x.2.0 (mark_is m t.kind t.wants)
          t.taken,
      t.scope,
    )

pub expects : (m : Punctuator) (ps : List Part) (s z : State) (x : Unit {0} × ℕ × State) → expect m s ≡ Some x →
    Spans ps x.2 z → Spans (takes (kind.Punctuator m) ∷ ps) s z
expects m ps s z x h y = let e = expected m s x h in take x.1 (kind.Punctuator m) ps s x.2 z e.0 e.1 y

pub expects_at : (m : Punctuator) (ps : List Part) (s z : State) (x : Unit {0} × ℕ × State) → expect m s ≡ Some x →
    Spans ps x.2 z → Spans (takes_at x.1 (kind.Punctuator m) ∷ ps) s z
expects_at m ps s z x h y = let e = expected m s x h in take_at x.1 (kind.Punctuator m) ps s x.2 z e.0 e.1 y

pub expected_keyword : (k : Keyword) (s : State) (x : Unit {0} × ℕ × State) → expect_keyword k s ≡ Some x →
    Takes x.1 (kind.Keyword k) s.0 x.2.0 × (s.1 ≡ x.2.1)
expected_keyword k s x h =
    let t = took (a_keyword k) s x h in (
      taken_as x.1 t.kind (kind.Keyword k) s.0 x.2.0 (keyword_is k t.kind t.wants)
          t.taken,
      t.scope,
    )

pub named : (s : State) (x : Name × ℕ × State) → name_at s ≡ Some x → Takes x.1 (kind.Identifier x.0) s.0 x.2.0 ×
    (s.1 ≡ x.2.1)
named s x h =
    let t = took a_name s x h in (
      taken_as x.1 t.kind (kind.Identifier x.0) s.0 x.2.0 (name_is t.kind x.0 t.wants)
          t.taken,
      t.scope,
    )

pub expects_name : (ps : List Part) (s z : State) (x : Name × ℕ × State) → name_at s ≡ Some x → Spans ps x.2 z →
    Spans (takes (kind.Identifier x.0) ∷ ps) s z
expects_name ps s z x h y = let e = named s x h in take x.1 (kind.Identifier x.0) ps s x.2 z e.0 e.1 y

pub expects_name_at : (ps : List Part) (s z : State) (x : Name × ℕ × State) → name_at s ≡ Some x → Spans ps x.2 z →
    Spans (takes_at x.1 (kind.Identifier x.0) ∷ ps) s z
expects_name_at ps s z x h y = let e = named s x h in take_at x.1 (kind.Identifier x.0) ps s x.2 z e.0 e.1 y

-- ---- tokens that are wanted, and so are read

taken_in : {A : Type 0} (wanted : TokenKind → Option A) (tokens : List Token) (scope : Scope) (at : ℕ) (k : TokenKind)
    (rest : List Token) (a : A) → Takes at k tokens rest → wanted k ≡ Some a → take_by wanted tokens scope ≡ Some
    (a, at, (rest, scope))
taken_in wanted tokens scope at k rest a t w = rw (t.is, t.kind, w, t.start) refl

pub takes_by : {A : Type 0} (wanted : TokenKind → Option A) (s : State) (at : ℕ) (k : TokenKind) (rest : List Token)
    (a : A) → Takes at k s.0 rest → wanted k ≡ Some a → take_by wanted s.0 s.1 ≡ Some (a, at, (rest, s.1))
takes_by wanted s at k rest a t w = taken_in wanted s.0 s.1 at k rest a t w

pub a_mark_itself : (m : Punctuator) → a_mark m (kind.Punctuator m) ≡ Some tt
a_mark_itself m = grind rules

pub a_keyword_itself : (k : Keyword) → a_keyword k (kind.Keyword k) ≡ Some tt
a_keyword_itself k = grind rules

-- ---- as many tokens as are wanted

module _ {A : Type 0} (wanted : TokenKind → Option A) (spelled : A → TokenKind) (parts : List A → List Part) where
  -- the parts are one token each
  pub record SpelledBy : Type 0 where
    pub is : (k : TokenKind) (x : A) → wanted k ≡ Some x → k ≡ spelled x
    pub none : parts [] ≡ []
    pub more : (x : A) (xs : List A) → parts (x ∷ xs) ≡ takes (spelled x) ∷ parts xs

  pub run_takes : SpelledBy → (n : ℕ) (s z : State) (xs : List A) → run_at wanted n s ≡ Some (xs, z) →
      Spans (parts xs) s z
  unfolding run_at
  run_takes p zero s z xs h = cc
  run_takes p (suc n) s z xs h =
      let P = λ (q : List A × State). Spans (parts q.0) s q.1 in
      elim (chosen (begins_by wanted s.0) _ _ _ h) [
        | inl c ↦
            let a = bind_some (take_by wanted s.0 s.1) _ _ c.1 in
            let b = bind_some (run_at wanted n a.0.2) _ _ a.2 in
            let t = took wanted s a.0 a.1 in
            let y = take a.0.1 (spelled a.0.0) (parts b.0.0) s a.0.2 b.0.1 (taken_as a.0.1 t.kind (spelled a.0.0) s.0
            a.0.2.0 (p.is t.kind a.0.0 t.wants) t.taken) t.scope (run_takes p n a.0.2 b.0.1 b.0.0 b.1) in
            subst P (same_Some (a.0.0 ∷ b.0.0, b.0.1) (xs, z) b.2) (subst (λ (l : List Part). Spans l s b.0.1)
            (sym (p.more a.0.0 b.0.0)) y)
        | inr c ↦ subst P (same_Some ([], s) (xs, z) c.1) (subst (λ (l : List Part). Spans l s s) (sym p.none) refl)
      ]
