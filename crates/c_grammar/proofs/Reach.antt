-- Reading an expression by a looser rule, and the operators behind it.
use Rattle.std.proofs.Common.{
  ◌≡◌,
  ◌≤◌,
  ◌<◌,
  ◌≢◌,
  ℕ,
  zero,
  suc,
  List,
  [],
  ◌∷◌,
  length,
  Some,
  Bool,
  true,
  false,
  refl,
  sym,
  ◌∙◌,
  subst,
  arith,
  ◌⊎◌,
  inl,
  inr,
}
use Rattle.std.specs.Prelude.{nat_eq, nat_le}
use Rattle.c_language.specs.declared.token.Token.{Token}
use Rattle.c_language.specs.declared.token.TokenKind.{TokenKind}
use Rattle.c_language.specs.declared.token.TokenKind.TheVariants as kind
use Rattle.c_language.specs.declared.token.Keyword.TheVariants as keyword
use Rattle.c_language.specs.declared.token.Punctuator.{Punctuator}
use Rattle.c_language.specs.declared.expr.BinaryOperator.{BinaryOperator}
use Rattle.c_language.specs.declared.expr.Expr.{Expr}
use Rattle.c_grammar.specs.Parts.{Part, State, Takes, Spans}
use Rattle.c_grammar.specs.Spelling.{rank_of}
use Rattle.c_grammar.specs.Operators.{binding_of}
use Rattle.c_grammar.specs.Grammar.{Shape, shape}
use Rattle.c_grammar.specs.Reading.{
  Rules,
  rules,
  expr_by,
  looped,
  more_at,
  extend_in,
  a_unary,
  begins_by,
  begins_keyword,
  typed_in,
  binds,
  binds_in,
  binding,
}
use Rattle.c_grammar.proofs.Spans.{no_more, one_less}
use Rattle.c_grammar.proofs.Begins.{rank_most, rank_least, sized, Starts, starts}

nat_eq_same : (m n : ℕ) → m ≡ n → nat_eq m n ≡ true
nat_eq_same m n h = grind arith

nat_eq_other : (m n : ℕ) → n < m → nat_eq m n ≡ false
nat_eq_other m n h = grind arith

pub nat_le_is : (m n : ℕ) → m ≤ n → nat_le m n ≡ true
nat_le_is m n h = grind arith

-- no operator binds as a unary operator or a cast does
binding_gap : (m : Punctuator) → 1 < binding_of m → 3 < binding_of m
binding_gap m h = grind arith

gap_by : (k : TokenKind) → 1 < binding k → 3 < binding k
gap_by (kind.Punctuator m) h = binding_gap m h
gap_by (kind.StringLiteral bytes) h = absurd (omega arith)
gap_by _ h = omega arith

pub gap_in : (tokens : List Token) → 1 < binds_in tokens → 3 < binds_in tokens
gap_in [] h = omega arith
gap_in (t ∷ rest) h = gap_by t.kind h

-- a rank whose operators are read by a loop, from the left
pub record IsLeft (rank : ℕ) : Type 0 where
  pub some : 0 < rank
  pub no_unary : rank ≢ 2
  pub no_cast : rank ≢ 3
  pub no_conditional : rank ≢ 14
  pub no_assignment : rank ≢ 15

pub left_1 : IsLeft 1
left_1 =
    record {
      some = omega arith;
      no_unary = omega arith;
      no_cast = omega arith;
      no_conditional = omega arith;
      no_assignment = omega arith;
    }

pub left_16 : IsLeft 16
left_16 =
    record {
      some = omega arith;
      no_unary = omega arith;
      no_cast = omega arith;
      no_conditional = omega arith;
      no_assignment = omega arith;
    }

pub left_binary : (op : BinaryOperator) → IsLeft (rank_of op)
left_binary op =
    let a = rank_least op in let b = rank_most op in record {
      some = omega arith;
      no_unary = omega arith;
      no_cast = omega arith;
      no_conditional = omega arith;
      no_assignment = omega arith;
    }

-- the expression is read, and nothing behind it
abbrev pub Ends : ℕ → ℕ → State → Expr → State → Type 0
Ends below rank s e z = expr_by (rules below) (suc below) rank s ≡ Some (e, z)

-- the expression is read, and then the operators of this rank behind it
pub record Reach (below rank : ℕ) (s : State) (e : Expr) (z : State) : Type 0 where
  pub bound : ℕ
  pub enough : length z.0 < bound
  pub reads : expr_by (rules below) (suc below) rank s ≡ more_at (rules below) (suc below) rank bound e z

stop : (r : Rules) (limit rank n : ℕ) (e : Expr) (z : State) → 0 < n → rank < binds z → more_at r limit rank n e z ≡
    Some (e, z)
unfolding more_at
stop r limit rank zero e z pos h = absurd (omega arith)
stop r limit rank (suc n) e z pos h = rw (nat_eq_other (binds z) rank h) refl

pub stopped : (below rank : ℕ) (s : State) (e : Expr) (z : State) → Reach below rank s e z → rank < binds z →
    Ends below rank s e z
stopped below rank s e z r h = r.reads ∙ stop (rules below) (suc below) rank r.bound e z (omega (arith, r.enough)) h

loop_postfix : (below : ℕ) (s : State) (e : Expr) (z : State) → Ends below 0 s e z → Reach below 1 s e z
unfolding expr_by
loop_postfix below s e z h = record { bound = suc (length z.0); enough = omega arith; reads = rw h refl }

unrolled : (below k : ℕ) (s : State) → expr_by (rules below) (suc below) (suc (suc (suc (suc k)))) s ≡ looped
    (rules below) (suc below) (suc (suc (suc (suc k)))) (expr_by (rules below) (suc below) (suc (suc (suc k)))) s
unfolding expr_by
unrolled below k s = refl

past_unary : (below : ℕ) (s : State) → begins_by a_unary s.0 ≡ false → begins_keyword keyword.Sizeof s ≡ false →
    expr_by (rules below) (suc below) 2 s ≡ expr_by (rules below) (suc below) 1 s
unfolding expr_by
past_unary below s a b = rw (a, b) refl

past_cast : (below : ℕ) (s : State) → typed_in s.0 s.1 ≡ false → expr_by (rules below) (suc below) 3 s ≡ expr_by
    (rules below) (suc below) 2 s
unfolding expr_by
past_cast below s a = rw a refl

pub loop_binary : (below k : ℕ) (s : State) (e : Expr) (z : State) → Ends below (suc (suc (suc k))) s e z →
    Reach below (suc (suc (suc (suc k)))) s e z
loop_binary below k s e z h =
    record { bound = suc (length z.0); enough = omega arith; reads = unrolled below k s ∙ rw h refl }

-- from one rank to the next, and to any looser one
step_up : (below r r' : ℕ) (s : State) (e : Expr) (z : State) → r' ≤ r → Starts r' s z → suc r < binds z →
    Ends below r s e z → Ends below (suc r) s e z
step_up below zero r' s e z le x h i = stopped below 1 s e z (loop_postfix below s e z i) h
step_up below (suc zero) r' s e z le x h i = past_unary below s (x.no_unary le) (x.no_sizeof le) ∙ i
step_up below (suc (suc zero)) r' s e z le x h i = past_cast below s (x.no_cast le) ∙ i
step_up below (suc (suc (suc k))) r' s e z le x h i = stopped below _ s e z (loop_binary below k s e z i) h

below_by : (m n : ℕ) → m ≤ suc n → (b : Bool) → nat_le m n ≡ b → (m ≡ suc n) ⊎ (m ≤ n)
below_by m n h true e = inr (grind arith)
below_by m n h false e = inl (grind arith)

below_or : (m n : ℕ) → m ≤ suc n → (m ≡ suc n) ⊎ (m ≤ n)
below_or m n h = below_by m n h (nat_le m n) refl

climb : (below r' : ℕ) (s : State) (e : Expr) (z : State) → Starts r' s z → (r' < binds z → Ends below r' s e z) →
    (r : ℕ) → r' ≤ r → r < binds z → Ends below r s e z
climb below r' s e z x base zero le h =
    let same : r' ≡ 0 = omega arith in subst (λ (q : ℕ). Ends below q s e z) same (base (omega arith))
climb below r' s e z x base (suc r) le h =
    elim (below_or r' r le) [
      | inl p ↦ subst (λ (q : ℕ). Ends below q s e z) p (base (omega arith))
      | inr p ↦ step_up below r r' s e z p x h (climb below r' s e z x base r p (omega arith))
    ]

-- from the rank below
reach_above : (below r : ℕ) (s : State) (e : Expr) (z : State) → IsLeft (suc r) → Ends below r s e z →
    Reach below (suc r) s e z
reach_above below zero s e z left h = loop_postfix below s e z h
reach_above below (suc zero) s e z left h = absurd (omega (arith, left.no_unary))
reach_above below (suc (suc zero)) s e z left h = absurd (omega (arith, left.no_cast))
reach_above below (suc (suc (suc k))) s e z left h = loop_binary below k s e z h

-- what is to be shown of each kind of expression, at its own rank
pub record BaseOf (e : Expr) (h : Shape) : Type 0 where
  pub ends : (below : ℕ) (s z : State) → Spans h.parts s z → h.height ≤ suc below → h.rank < binds z →
      Ends below h.rank s e z
  pub reach : (below : ℕ) (s z : State) → Spans h.parts s z → h.height ≤ suc below → IsLeft h.rank → h.rank ≤ binds
      z → Reach below h.rank s e z

-- an expression that is derived is read, by any rule loose enough
pub record ExprRead (e : Expr) : Type 0 where
  pub ends : (below rank : ℕ) (s z : State) → Spans (shape e).parts s z → (shape e).rank ≤ rank → (shape e).height ≤
      suc below → rank < binds z → Ends below rank s e z
  pub reach : (below rank : ℕ) (s z : State) → Spans (shape e).parts s z → (shape e).rank ≤ rank → (shape e).height ≤
      suc below → IsLeft rank → rank ≤ binds z → Reach below rank s e z

reach_from : (e : Expr) (b : BaseOf e (shape e)) (below rank : ℕ) (s z : State) → Spans (shape e).parts s z →
    (shape e).rank ≤ rank → (shape e).height ≤ suc below → IsLeft rank → rank ≤ binds z → Reach below rank s e z
reach_from e b below zero s z x fits low left h = absurd (omega (arith, left.some))
reach_from e b below (suc rank) s z x fits low left h =
    elim (below_or (shape e).rank rank fits) [
      | inl p ↦ subst (λ (q : ℕ). Reach below q s e z) p (b.reach below s z x low (subst IsLeft (sym p) left)
          (omega arith))
      | inr p ↦ reach_above below rank s e z left (climb below (shape e).rank s e z (starts e s z x)
          (b.ends below s z x low) rank p (omega arith))
    ]

pub read_from : (e : Expr) → BaseOf e (shape e) → ExprRead e
read_from e b = record {
  ends =
      λ below rank s z x fits low h. climb below (shape e).rank s e z (starts e s z x) (b.ends below s z x low) rank
      fits h;
  reach = reach_from e b;
}

-- an expression inside another tree
pub inner : (e : Expr) → ExprRead e → (below rank : ℕ) (s z : State) → Spans (shape e).parts s z → (shape e).rank ≤
    rank → (shape e).height ≤ below → rank < binds z → (rules below).expr rank s ≡ Some (e, z)
unfolding rules
inner e a zero rank s z x fits low h = absurd (omega (arith, (sized e).1))
inner e a (suc below) rank s z x fits low h = a.ends below rank s z x fits low h

one_more : (below rank n : ℕ) (left' e : Expr) (m z : State) → binds m ≡ rank → extend_in (rules below) left' m.0
    m.1 ≡ Some (e, z) → (shape e).height ≤ suc below → more_at (rules below) (suc below) rank (suc n) left' m ≡
    more_at (rules below) (suc below) rank n e z
unfolding more_at
one_more below rank n left' e m z is extends low =
    rw (nat_eq_same (binds m) rank is, extends, nat_le_is (shape e).height (suc below) low) refl

grown_by : (below rank : ℕ) (s m z : State) (left' e : Expr) (n : ℕ) → length m.0 < n → expr_by (rules below)
    (suc below) rank s ≡ more_at (rules below) (suc below) rank n left' m → binds m ≡ rank → extend_in (rules below)
    left' m.0 m.1 ≡ Some (e, z) → (shape e).height ≤ suc below → length z.0 < length m.0 → Reach below rank s e z
grown_by below rank s m z left' e zero enough reads is extends low less = absurd (omega arith)
grown_by below rank s m z left' e (suc n) enough reads is extends low less =
    record { bound = n; enough = omega arith; reads = reads ∙ one_more below rank n left' e m z is extends low }

-- an operand with the operator behind it
pub grown : (below rank : ℕ) (s m z : State) (left' e : Expr) → Reach below rank s left' m → binds m ≡ rank →
    extend_in (rules below) left' m.0 m.1 ≡ Some (e, z) → (shape e).height ≤ suc below → length z.0 < length m.0 →
    Reach below rank s e z
grown below rank s m z left' e r is extends low less =
    grown_by below rank s m z left' e r.bound r.enough r.reads is extends low less

-- where a loop has read it, nothing else is to be shown
pub left_base : (e : Expr) (h : Shape) → ((below : ℕ) (s z : State) → Spans h.parts s z → h.height ≤ suc below →
    h.rank ≤ binds z → Reach below h.rank s e z) → BaseOf e h
left_base e h r = record {
  ends = λ below s z x low stops. stopped below h.rank s e z (r below s z x low (omega arith)) stops;
  reach = λ below s z x low left le. r below s z x low le;
}

-- a token taken, and then parts, are fewer tokens
pub behind : (at : ℕ) (k : TokenKind) (rest : List Token) (m z : State) (ps : List Part) → Takes at k m.0 rest →
    Spans ps (rest, m.1) z → length z.0 < length m.0
behind at k rest m z ps e x = let l = one_less at k m.0 rest e in let l' = no_more ps (rest, m.1) z x in omega arith
