-- The expressions that are read are derived.
use Rattle.std.proofs.Common.{
  ◌≡◌,
  ◌≤◌,
  ◌<◌,
  ℕ,
  zero,
  suc,
  pred,
  List,
  [],
  ◌∷◌,
  ◌++◌,
  length,
  Option,
  Some,
  None,
  false,
  refl,
  sym,
  ap,
  ◌∙◌,
  subst,
  arith,
  rules,
  inl,
  inr,
}
use Rattle.std.specs.Prelude.{map, nat_eq, nat_le}
use Rattle.std.proofs.lemmas.Option.{same_Some}
use Rattle.c_language.specs.declared.token.Token.{Token}
use Rattle.c_language.specs.declared.token.TokenKind.{TokenKind}
use Rattle.c_language.specs.declared.token.TokenKind.TheVariants as kind
use Rattle.c_language.specs.declared.token.Keyword.TheVariants as keyword
use Rattle.c_language.specs.declared.token.Punctuator.{Punctuator}
use Rattle.c_language.specs.declared.token.Punctuator.TheVariants as mark
use Rattle.c_language.specs.declared.expr.UnaryOperator.{UnaryOperator}
use Rattle.c_language.specs.declared.expr.UnaryOperator.TheVariants as unary
use Rattle.c_language.specs.declared.expr.PostfixOperator.{PostfixOperator}
use Rattle.c_language.specs.declared.expr.PostfixOperator.TheVariants as postfix
use Rattle.c_language.specs.declared.expr.BinaryOperator.{BinaryOperator}
use Rattle.c_language.specs.declared.expr.Expr.{Expr}
use Rattle.c_language.specs.declared.expr.Expr.TheVariants as expr
use Rattle.c_grammar.specs.declared.operators.Infix.{Infix}
use Rattle.c_grammar.specs.declared.operators.Infix.TheVariants as between
use Rattle.c_grammar.specs.Spelling.{unary_mark, operand_rank, postfix_mark, binary_mark, rank_of, assign_mark}
use Rattle.c_grammar.specs.Operators.{infix_of, infix_rank, binding_of}
use Rattle.c_grammar.specs.Parts.{Name, Part, takes, takes_at, holds, Scope, State, Takes, Spans, is_typedef}
use Rattle.c_grammar.specs.Grammar.{
  Piece,
  shape,
  type_name_of,
  takes_mark,
  takes_mark_at,
  piece_of_rank,
  of_rank,
  later,
  highest,
  highest_shape,
  argument_parts,
  more_literals,
  assign_parts,
  in_parens,
  Derives,
}
use Rattle.c_grammar.specs.Reading.{
  Reading,
  Rules,
  take_by,
  a_literal,
  a_unary,
  begins,
  begins_by,
  begins_keyword,
  expect,
  expect_keyword,
  name_at,
  run_at,
  binding,
  binds_in,
  binds,
  more_arguments_at,
  arguments_at,
  subscript_at,
  call_at,
  member_of_at,
  arrow_at,
  conditional_at,
  assign_at,
  binary_at,
  comma_at,
  infix_at,
  extend_by,
  extend_with,
  extend_in,
  more_at,
  looped,
  parenthesized_at,
  identifier_at,
  literal_at,
  primary_by,
  primary_in,
  typed_in,
  parenthesized_type_at,
  sizeof_at,
  sized_at,
  unary_at,
  cast_at,
  expr_by,
}
use Rattle.c_grammar.proofs.Spans.{
  join,
  bind_some,
  chosen,
  guarded,
  nat_le_true,
  nat_eq_true,
  first_taken,
  taken_as,
  took,
  take_at,
  expects,
  expected_keyword,
  expects_name,
  run_takes,
}
use Rattle.c_grammar.proofs.IsSound.{IsSound, type_in_parens}
use Rattle.c_grammar.proofs.Equations.{
  shape-Integer,
  shape-Floating,
  shape-Character,
  shape-StringLiteral,
  shape-FunctionName,
  shape-Identifier,
  shape-Parenthesized,
  shape-Subscript,
  shape-Call,
  shape-Member,
  shape-Arrow,
  shape-Postfix,
  shape-Unary,
  shape-SizeofExpr,
  shape-SizeofType,
  shape-Cast,
  shape-Binary,
  shape-Conditional,
  shape-Assign,
  shape-Comma,
}

-- ---- operators by their marks

unary_is : (k : TokenKind) (operator : UnaryOperator) → a_unary k ≡ Some operator → k ≡ kind.Punctuator
    (unary_mark operator)
unary_is (kind.Punctuator mark.Ampersand) operator h =
    ap (λ o. kind.Punctuator (unary_mark o)) (same_Some unary.Address operator h)
unary_is (kind.Punctuator mark.Star) operator h =
    ap (λ o. kind.Punctuator (unary_mark o)) (same_Some unary.Indirection operator h)
unary_is (kind.Punctuator mark.Plus) operator h =
    ap (λ o. kind.Punctuator (unary_mark o)) (same_Some unary.Plus operator h)
unary_is (kind.Punctuator mark.Minus) operator h =
    ap (λ o. kind.Punctuator (unary_mark o)) (same_Some unary.Minus operator h)
unary_is (kind.Punctuator mark.Tilde) operator h =
    ap (λ o. kind.Punctuator (unary_mark o)) (same_Some unary.Complement operator h)
unary_is (kind.Punctuator mark.Exclamation) operator h =
    ap (λ o. kind.Punctuator (unary_mark o)) (same_Some unary.Not operator h)
unary_is (kind.Punctuator mark.PlusPlus) operator h =
    ap (λ o. kind.Punctuator (unary_mark o)) (same_Some unary.Increment operator h)
unary_is (kind.Punctuator mark.MinusMinus) operator h =
    ap (λ o. kind.Punctuator (unary_mark o)) (same_Some unary.Decrement operator h)
unary_is _ operator h = cc

binary_is : (m : Punctuator) (operator : BinaryOperator) → infix_of m ≡ Some (between.Binary operator) →
    m ≡ binary_mark operator
binary_is m operator h = grind rules

assign_is : (m : Punctuator) (operator : Option BinaryOperator) → infix_of m ≡ Some (between.Assign operator) →
    assign_mark operator ≡ Some m
assign_is m operator h = grind rules

rank_positive : (operator : BinaryOperator) → 3 < rank_of operator
rank_positive operator = grind arith

literal_is : (k : TokenKind) (bytes : List ℕ) → a_literal k ≡ Some bytes → k ≡ kind.StringLiteral bytes
literal_is (kind.StringLiteral b) bytes h = ap (λ x. kind.StringLiteral x) (same_Some b bytes h)
literal_is _ bytes h = cc

-- ---- an operand with an operator behind it

-- an operand from s, with this token behind it, leads to m
record Front (s : State) (left' : Expr) (at : ℕ) (k : TokenKind) (m : State) : Type 0 where
  mid : State
  spans : Spans (shape left').parts s mid
  taken : Takes at k mid.0 m.0
  scope : mid.1 ≡ m.1

front : (s : State) (left' : Expr) (at : ℕ) (k : TokenKind) (m z : State) (ps : List Part) → Front s left' at k m →
    Spans ps m z → Spans ((shape left').parts ++ takes_at at k ∷ ps) s z
front s left' at k m z ps f x =
    join (shape left').parts (takes_at at k ∷ ps) s f.mid z f.spans (take_at at k ps f.mid m z f.taken f.scope x)

-- an expression from s to z, of this rank
record Grown (rank : ℕ) (s : State) (e : Expr) (z : State) : Type 0 where
  spans : Spans (shape e).parts s z
  is : (shape e).rank ≡ rank

-- an assignment operator that is spelled so, in front of parts
assigned_by : (at : ℕ) (operator : Option BinaryOperator) (m : Punctuator) → assign_mark operator ≡ Some m →
    assign_parts at operator ≡ takes_mark_at at m ∷ []
assigned_by at operator m e =
    ap (λ (o : Option Punctuator). elim o as (λ _. List Part) [
      | None ↦ holds false ∷ []
      | Some n ↦ takes_mark_at at n
          ∷ []
    ]) e

assigned : (at : ℕ) (operator : Option BinaryOperator) (m : Punctuator) (ps : List Part) (s z : State) →
    assign_mark operator ≡ Some m → Spans (takes_mark_at at m ∷ ps) s z → Spans (assign_parts at operator ++ ps) s z
assigned at operator m ps s z e x =
    subst (λ (l : List Part). Spans (l ++ ps) s z) (sym (assigned_by at operator m e)) x

module _ (below : ℕ) (r : Rules) (sound : IsSound below r) where
  expr_read : (rank : ℕ) (s : State) (x : Expr × State) → r.expr rank s ≡ Some x → Derives below rank s x.0 x.1
  expr_read rank s x h = sound.expr rank s x.1 x.0 h

  abbrev pieces : List Expr → List Piece
  pieces xs = map (piece_of_rank 15) (map shape xs)

  more_arguments_take : (n : ℕ) (s z : State) (xs : List Expr) → more_arguments_at r n s ≡ Some (xs, z) →
      Spans (later (pieces xs)) s z × (highest (pieces xs) ≤ below)
  unfolding more_arguments_at
  more_arguments_take zero s z xs h = cc
  more_arguments_take (suc n) s z xs h =
      let P = λ (p : List Expr × State). Spans (later (pieces p.0)) s p.1 × (highest (pieces p.0) ≤ below) in
      elim (chosen (begins mark.Comma s) _ _ _ h) [
        | inl p ↦
            let a = bind_some (expect mark.Comma s) _ _ p.1 in
            let b = bind_some (r.expr 15 a.0.2) _ _ a.2 in
            let c = bind_some (more_arguments_at r n b.0.1) _ _ b.2 in
            let d = expr_read 15 a.0.2 b.0 b.1 in
            let m = more_arguments_take n b.0.1 c.0.1 c.0.0 c.1 in
            subst P (same_Some (b.0.0 ∷ c.0.0, c.0.1) (xs, z) c.2) (
              expects mark.Comma (of_rank 15 (shape b.0.0) ++ later (pieces c.0.0)) s c.0.1 a.0 a.1 (
                d.fits,
                join (shape b.0.0).parts (later (pieces c.0.0)) a.0.2 b.0.1 c.0.1 d.spans m.0,
              ),
              omega (arith, d.low, m.1),
            )
        | inr p ↦ subst P (same_Some ([], s) (xs, z) p.1) (refl, omega arith)
      ]

  arguments_take : (s z : State) (xs : List Expr) → arguments_at r s ≡ Some (xs, z) →
      Spans (argument_parts (map shape xs)) s z × (highest_shape (map shape xs) ≤ below)
  unfolding arguments_at
  arguments_take s z xs h =
      let P = λ (p : List Expr × State). Spans (argument_parts (map shape p.0)) s p.1 ×
      (highest_shape (map shape p.0) ≤ below) in
      elim (chosen (begins mark.RightParen s) _ _ _ h) [
        | inl p ↦ subst P (same_Some ([], s) (xs, z) p.1) (refl, omega arith)
        | inr p ↦
            let b = bind_some (r.expr 15 s) _ _ p.1 in
            let c = bind_some (more_arguments_at r (suc (length b.0.1.0)) b.0.1) _ _ b.2 in
            let d = expr_read 15 s b.0 b.1 in
            let m = more_arguments_take (suc (length b.0.1.0)) b.0.1 c.0.1 c.0.0 c.1 in
            subst P (same_Some (b.0.0 ∷ c.0.0, c.0.1) (xs, z) c.2) (
              (d.fits, join (shape b.0.0).parts (later (pieces c.0.0)) s b.0.1 c.0.1 d.spans m.0),
              omega (arith, d.low, m.1),
            )
      ]

  subscript_takes : (s m z : State) (left' e : Expr) (at : ℕ) → Front s left' at (kind.Punctuator mark.LeftBracket)
      m → (shape left').rank ≤ 1 → subscript_at r at left' m ≡ Some (e, z) → Grown 1 s e z
  unfolding subscript_at
  subscript_takes s m z left' e at f fits h =
      let a = bind_some (r.expr 16 m) _ _ h in
      let b = bind_some (expect mark.RightBracket a.0.1) _ _ a.2 in
      let d = expr_read 16 m a.0 a.1 in
      let ps = (shape a.0.0).parts ++ takes_mark mark.RightBracket ∷ [] in
      let x = join (shape a.0.0).parts (takes_mark mark.RightBracket ∷ []) m a.0.1 b.0.2 d.spans
      (expects mark.RightBracket [] a.0.1 b.0.2 b.0 b.1 refl) in
      subst (λ (p : Expr × State). Grown 1 s p.0 p.1) (same_Some (expr.Subscript at left' a.0.0, b.0.2) (e, z) b.2)
      (record {
        spans = rw shape-Subscript (fits, front s left' at (kind.Punctuator mark.LeftBracket) m b.0.2 ps f x);
        is = rw shape-Subscript refl;
      })

  call_takes : (s m z : State) (left' e : Expr) (at : ℕ) → Front s left' at (kind.Punctuator mark.LeftParen) m →
      (shape left').rank ≤ 1 → call_at r at left' m ≡ Some (e, z) → Grown 1 s e z
  unfolding call_at
  call_takes s m z left' e at f fits h =
      let a = bind_some (arguments_at r m) _ _ h in
      let b = bind_some (expect mark.RightParen a.0.1) _ _ a.2 in
      let d = arguments_take m a.0.1 a.0.0 a.1 in
      let arguments = argument_parts (map shape a.0.0) in
      let x = join arguments (takes_mark mark.RightParen ∷ []) m a.0.1 b.0.2 d.0 (expects mark.RightParen [] a.0.1
      b.0.2 b.0 b.1 refl) in
      subst (λ (p : Expr × State). Grown 1 s p.0 p.1) (same_Some (expr.Call at left' a.0.0, b.0.2) (e, z) b.2)
      (record {
        spans =
            rw shape-Call (
              fits,
              front s left' at (kind.Punctuator mark.LeftParen) m b.0.2 (arguments ++
                  takes_mark mark.RightParen ∷ []) f x,
            );
        is = rw shape-Call refl;
      })

  member_takes : (s m z : State) (left' e : Expr) (at : ℕ) → Front s left' at (kind.Punctuator mark.Dot) m →
      (shape left').rank ≤ 1 → member_of_at at left' m ≡ Some (e, z) → Grown 1 s e z
  unfolding member_of_at
  member_takes s m z left' e at f fits h =
      let a = bind_some (name_at m) _ _ h in
      let x = expects_name [] m a.0.2 a.0 a.1 refl in
      subst (λ (p : Expr × State). Grown 1 s p.0 p.1) (same_Some (expr.Member at left' a.0.0, a.0.2) (e, z) a.2)
      (record {
        spans =
            rw shape-Member (
              fits,
              front s left' at (kind.Punctuator mark.Dot) m a.0.2 (takes (kind.Identifier a.0.0)
                  ∷ []) f x,
            );
        is = rw shape-Member refl;
      })

  arrow_takes : (s m z : State) (left' e : Expr) (at : ℕ) → Front s left' at (kind.Punctuator mark.Arrow) m →
      (shape left').rank ≤ 1 → arrow_at at left' m ≡ Some (e, z) → Grown 1 s e z
  unfolding arrow_at
  arrow_takes s m z left' e at f fits h =
      let a = bind_some (name_at m) _ _ h in
      let x = expects_name [] m a.0.2 a.0 a.1 refl in
      subst (λ (p : Expr × State). Grown 1 s p.0 p.1) (same_Some (expr.Arrow at left' a.0.0, a.0.2) (e, z) a.2)
      (record {
        spans =
            rw shape-Arrow (
              fits,
              front s left' at (kind.Punctuator mark.Arrow) m a.0.2 (takes (kind.Identifier a.0.0)
                  ∷ []) f x,
            );
        is = rw shape-Arrow refl;
      })

  postfix_takes : (s m z : State) (left' e : Expr) (at : ℕ) (operator : PostfixOperator) → Front s left' at
      (kind.Punctuator (postfix_mark operator)) m → (shape left').rank ≤ 1 → ◌≡◌ {A = Reading Expr}
      (Some (expr.Postfix at operator left', m)) (Some (e, z)) → Grown 1 s e z
  postfix_takes s m z left' e at operator f fits h =
      subst (λ (p : Expr × State). Grown 1 s p.0 p.1) (same_Some (expr.Postfix at operator left', m) (e, z) h)
      (record {
        spans = rw shape-Postfix (fits, front s left' at (kind.Punctuator (postfix_mark operator)) m m [] f refl);
        is = rw shape-Postfix refl;
      })

  conditional_takes : (s m z : State) (left' e : Expr) (at : ℕ) → Front s left' at (kind.Punctuator mark.Question) m →
      conditional_at r at left' m ≡ Some (e, z) → Grown 14 s e z
  unfolding conditional_at
  conditional_takes s m z left' e at f h =
      let q = guarded (nat_le (shape left').rank 13) _ _ h in
      let a = bind_some (r.expr 16 m) _ _ q.1 in
      let b = bind_some (expect mark.Colon a.0.1) _ _ a.2 in
      let c = bind_some (r.expr 14 b.0.2) _ _ b.2 in
      let d = expr_read 16 m a.0 a.1 in
      let d' = expr_read 14 b.0.2 c.0 c.1 in
      let rest = takes_mark mark.Colon ∷ (shape c.0.0).parts in
      let x = join (shape a.0.0).parts rest m a.0.1 c.0.1 d.spans (expects mark.Colon (shape c.0.0).parts a.0.1 c.0.1
      b.0 b.1 d'.spans) in
      let found : Expr × State = (expr.Conditional at left' a.0.0 c.0.0, c.0.1) in
      subst (λ (p : Expr × State). Grown 14 s p.0 p.1) {x = found} (same_Some found (e, z) c.2)
      (record {
        spans =
            rw shape-Conditional (
              nat_le_true _ _ q.0,
              (
                d'.fits,
                front s left' at (kind.Punctuator mark.Question) m
                    c.0.1 ((shape a.0.0).parts ++ rest) f x,
              ),
            );
        is = rw shape-Conditional refl;
      })

  assign_takes : (s m z : State) (left' e : Expr) (at : ℕ) (n : Punctuator) (operator : Option BinaryOperator) →
      assign_mark operator ≡ Some n → Front s left' at (kind.Punctuator n) m → assign_at r at operator left' m ≡ Some
      (e, z) → Grown 15 s e z
  unfolding assign_at
  assign_takes s m z left' e at n operator is f h =
      let q = guarded (nat_le (shape left').rank 2) _ _ h in
      let a = bind_some (r.expr 15 m) _ _ q.1 in
      let d = expr_read 15 m a.0 a.1 in
      let value = (shape a.0.0).parts in
      let x = assigned at operator n value f.mid a.0.1 is (take_at at (kind.Punctuator n) value f.mid m a.0.1 f.taken
      f.scope d.spans) in
      let y = join (shape left').parts (assign_parts at operator ++ value) s f.mid a.0.1 f.spans x in
      subst (λ (p : Expr × State). Grown 15 s p.0 p.1) (same_Some (expr.Assign at operator left' a.0.0, a.0.1) (e, z)
      a.2)
      (record { spans = rw shape-Assign (nat_le_true _ _ q.0, (d.fits, y)); is = rw shape-Assign refl })

  binary_takes : (s m z : State) (left' e : Expr) (at : ℕ) (operator : BinaryOperator) → Front s left' at
      (kind.Punctuator (binary_mark operator)) m → (shape left').rank ≤ rank_of operator → binary_at r at operator
      left' m ≡ Some (e, z) → Grown (rank_of operator) s e z
  unfolding binary_at
  binary_takes s m z left' e at operator f fits h =
      let a = bind_some (r.expr (pred (rank_of operator)) m) _ _ h in
      let d = expr_read (pred (rank_of operator)) m a.0 a.1 in
      let tighter : suc (shape a.0.0).rank ≤ rank_of operator = omega (arith, d.fits, rank_positive operator) in
      subst (λ (p : Expr × State). Grown (rank_of operator) s p.0 p.1)
      (same_Some (expr.Binary at operator left' a.0.0, a.0.1) (e, z) a.2)
      (record {
        spans =
            rw shape-Binary (
              fits,
              (
                tighter,
                front s left' at (kind.Punctuator (binary_mark operator)) m a.0.1
                    (shape a.0.0).parts f d.spans,
              ),
            );
        is = rw shape-Binary refl;
      })

  comma_takes : (s m z : State) (left' e : Expr) (at : ℕ) → Front s left' at (kind.Punctuator mark.Comma) m →
      comma_at r at left' m ≡ Some (e, z) → Grown 16 s e z
  unfolding comma_at
  comma_takes s m z left' e at f h =
      let a = bind_some (r.expr 15 m) _ _ h in
      let d = expr_read 15 m a.0 a.1 in
      subst (λ (p : Expr × State). Grown 16 s p.0 p.1) (same_Some (expr.Comma at left' a.0.0, a.0.1) (e, z) a.2)
      (record {
        spans =
            rw shape-Comma (
              d.fits,
              front s left' at (kind.Punctuator mark.Comma) m a.0.1 (shape a.0.0).parts f
                  d.spans,
            );
        is = rw shape-Comma refl;
      })

  infix_takes : (s m z : State) (left' e : Expr) (at : ℕ) (n : Punctuator) (o : Option Infix) → infix_of n ≡ o →
      Front s left' at (kind.Punctuator n) m → (shape left').rank ≤ infix_rank o → infix_at r at o left' m ≡ Some
      (e, z) → Grown (infix_rank o) s e z
  infix_takes s m z left' e at n None is f fits h = cc
  infix_takes s m z left' e at n (Some (between.Binary operator)) is f fits h =
      binary_takes s m z left' e at operator (subst (λ (p : Punctuator). Front s left' at (kind.Punctuator p) m)
      (binary_is n operator is) f) fits h
  infix_takes s m z left' e at n (Some (between.Assign operator)) is f fits h =
      assign_takes s m z left' e at n operator (assign_is n operator is) f h

  extend_takes_by : (s m z : State) (left' e : Expr) (at : ℕ) (n : Punctuator) → Front s left' at (kind.Punctuator n)
      m → (shape left').rank ≤ binding_of n → extend_by r left' n at m ≡ Some (e, z) → Grown (binding_of n) s e z
  extend_takes_by s m z left' e at mark.LeftBracket f fits h = subscript_takes s m z left' e at f fits h
  extend_takes_by s m z left' e at mark.LeftParen f fits h = call_takes s m z left' e at f fits h
  extend_takes_by s m z left' e at mark.Dot f fits h = member_takes s m z left' e at f fits h
  extend_takes_by s m z left' e at mark.Arrow f fits h = arrow_takes s m z left' e at f fits h
  extend_takes_by s m z left' e at mark.PlusPlus f fits h = postfix_takes s m z left' e at postfix.Increment f fits h
  extend_takes_by s m z left' e at mark.MinusMinus f fits h = postfix_takes s m z left' e at postfix.Decrement f fits h
  extend_takes_by s m z left' e at mark.Question f fits h = conditional_takes s m z left' e at f h
  extend_takes_by s m z left' e at mark.Comma f fits h = comma_takes s m z left' e at f h
  extend_takes_by s m z left' e at n f fits h = infix_takes s m z left' e at n (infix_of n) refl f fits h

  extend_takes_with : (s m z : State) (left' e : Expr) (at : ℕ) (k : TokenKind) → Front s left' at k m →
      (shape left').rank ≤ binding k → extend_with r left' k at m ≡ Some (e, z) → Grown (binding k) s e z
  extend_takes_with s m z left' e at (kind.Punctuator n) f fits h = extend_takes_by s m z left' e at n f fits h
  extend_takes_with s m z left' e at _ f fits h = cc

  extend_takes : (s z : State) (left' e : Expr) (tokens : List Token) (scope : Scope) → Spans (shape left').parts s
      (tokens, scope) → (shape left').rank ≤ binds_in tokens → extend_in r left' tokens scope ≡ Some (e, z) →
      Grown (binds_in tokens) s e z
  extend_takes s z left' e [] scope x fits h = cc
  extend_takes s z left' e (t ∷ rest) scope x fits h =
      extend_takes_with s (rest, scope) z left' e t.start t.kind (record {
        mid = (t ∷ rest, scope);
        spans = x;
        taken = first_taken t rest;
        scope = refl;
      }) fits h

  more_take : (n rank : ℕ) (s m z : State) (left' e : Expr) → Spans (shape left').parts s m → (shape left').rank ≤
      rank → (shape left').height ≤ suc below → more_at r (suc below) rank n left' m ≡ Some (e, z) →
      Derives (suc below) rank s e z
  unfolding more_at
  more_take zero rank s m z left' e x fits low h = cc
  more_take (suc n) rank s m z left' e x fits low h =
      elim (chosen (nat_eq (binds m) rank) _ _ _ h) [
        | inl p ↦
            let a = bind_some (extend_in r left' m.0 m.1) _ _ p.1 in
            let q = guarded (nat_le (shape a.0.0).height (suc below)) _ _ a.2 in
            let b : binds m ≡ rank = nat_eq_true _ _ p.0 in
            let g = extend_takes s a.0.1 left' a.0.0 m.0 m.1 x (omega arith) a.1 in
            more_take n rank s a.0.1 z a.0.0 e g.spans (omega (arith, g.is)) (nat_le_true _ _ q.0) q.1
        | inr p ↦ subst (λ (p : Expr × State). Derives (suc below) rank s p.0 p.1) (same_Some (left', m) (e, z) p.1)
            (record {
              spans = x;
              fits = fits;
              low = low;
            })
      ]

  looped_takes : (rank looser : ℕ) (s z : State) (e : Expr) (inner : State → Reading Expr) → ((m : State) (x : Expr) →
      inner s ≡ Some (x, m) → Derives (suc below) rank s x m) → rank ≤ looser → looped r (suc below) looser inner s ≡
      Some (e, z) → Derives (suc below) looser s e z
  looped_takes rank looser s z e inner is_inner le h =
      let a = bind_some (inner s) _ _ h in
      let d = is_inner a.0.1 a.0.0 a.1 in
      more_take (suc (length a.0.1.0)) looser s a.0.1 z a.0.0 e d.spans (omega (arith, d.fits)) d.low a.2

  -- ---- what begins by its first token

  parenthesized_takes : (s m z : State) (e : Expr) (at : ℕ) → Takes at (kind.Punctuator mark.LeftParen) s.0 m.0 →
      s.1 ≡ m.1 → parenthesized_at r at m ≡ Some (e, z) → Derives (suc below) 0 s e z
  unfolding parenthesized_at
  parenthesized_takes s m z e at i j h =
      let a = bind_some (r.expr 16 m) _ _ h in
      let b = bind_some (expect mark.RightParen a.0.1) _ _ a.2 in
      let d = expr_read 16 m a.0 a.1 in
      let ps = (shape a.0.0).parts ++ takes_mark mark.RightParen ∷ [] in
      let x = join (shape a.0.0).parts (takes_mark mark.RightParen ∷ []) m a.0.1 b.0.2 d.spans
      (expects mark.RightParen [] a.0.1 b.0.2 b.0 b.1 refl) in
      subst (λ (p : Expr × State). Derives (suc below) 0 s p.0 p.1) (same_Some (expr.Parenthesized at a.0.0, b.0.2)
      (e, z) b.2)
      (record {
        spans = rw shape-Parenthesized (take_at at (kind.Punctuator mark.LeftParen) ps s m b.0.2 i j x);
        fits = rw shape-Parenthesized (omega arith);
        low = rw shape-Parenthesized (omega (arith, d.low));
      })

  literal_takes : (s m z : State) (e : Expr) (at : ℕ) (first : List ℕ) → Takes at (kind.StringLiteral first) s.0 m.0 →
      s.1 ≡ m.1 → literal_at at first m ≡ Some (e, z) → Derives (suc below) 0 s e z
  unfolding literal_at
  literal_takes s m z e at first i j h =
      let a = bind_some (run_at a_literal (suc (length m.0)) m) _ _ h in
      let x = run_takes a_literal (λ bytes. kind.StringLiteral bytes) more_literals (record {
        is = literal_is;
        none =
            refl;
        more = λ bytes more. refl;
      }) (suc (length m.0)) m a.0.1 a.0.0 a.1 in
      subst (λ (p : Expr × State). Derives (suc below) 0 s p.0 p.1) (same_Some (
        expr.StringLiteral at (first ∷ a.0.0),
        a.0.1,
      ) (e, z) a.2)
      (record {
        spans = rw shape-StringLiteral (take_at at (kind.StringLiteral first) (more_literals a.0.0) s m a.0.1 i j x);
        fits = rw shape-StringLiteral (omega arith);
        low = rw shape-StringLiteral (omega arith);
      })

  identifier_takes : (s m z : State) (e : Expr) (at : ℕ) (name : Name) → Takes at (kind.Identifier name) s.0 m.0 →
      s.1 ≡ m.1 → identifier_at at name m ≡ Some (e, z) → Derives (suc below) 0 s e z
  identifier_takes s m z e at name i j h =
      elim (chosen (is_typedef name m.1) _ _ _ h) [
        | inl p ↦ let f = p.1 in cc
        | inr p ↦
            let o : is_typedef name s.1 ≡ false = ap (is_typedef name) j ∙ p.0 in
            subst (λ (p : Expr × State). Derives (suc below) 0 s p.0 p.1) (same_Some (expr.Identifier at name, m)
            (e, z) p.1)
            (record {
              spans = rw shape-Identifier (o, take_at at (kind.Identifier name) [] s m m i j refl);
              fits = rw shape-Identifier (omega arith);
              low = rw shape-Identifier (omega arith);
            })
      ]

  primary_takes_by : (s m z : State) (e : Expr) (at : ℕ) (k : TokenKind) → Takes at k s.0 m.0 → s.1 ≡ m.1 →
      primary_by r k at m ≡ Some (e, z) → Derives (suc below) 0 s e z
  primary_takes_by s m z e at (kind.Integer constant) i j h =
      subst (λ (p : Expr × State). Derives (suc below) 0 s p.0 p.1) (same_Some (expr.Integer at constant, m) (e, z) h)
      (record {
        spans = rw shape-Integer (take_at at (kind.Integer constant) [] s m m i j refl);
        fits = rw shape-Integer (omega arith);
        low = rw shape-Integer (omega arith);
      })
  primary_takes_by s m z e at kind.Floating i j h =
      subst (λ (p : Expr × State). Derives (suc below) 0 s p.0 p.1) (same_Some (expr.Floating at, m) (e, z) h)
      (record {
        spans = rw shape-Floating (take_at at kind.Floating [] s m m i j refl);
        fits = rw shape-Floating (omega arith);
        low = rw shape-Floating (omega arith);
      })
  primary_takes_by s m z e at (kind.Character value) i j h =
      subst (λ (p : Expr × State). Derives (suc below) 0 s p.0 p.1) (same_Some (expr.Character at value, m) (e, z) h)
      (record {
        spans = rw shape-Character (take_at at (kind.Character value) [] s m m i j refl);
        fits = rw shape-Character (omega arith);
        low = rw shape-Character (omega arith);
      })
  primary_takes_by s m z e at (kind.StringLiteral bytes) i j h = literal_takes s m z e at bytes i j h
  primary_takes_by s m z e at kind.FunctionName i j h =
      subst (λ (p : Expr × State). Derives (suc below) 0 s p.0 p.1) (same_Some (expr.FunctionName at, m) (e, z) h)
      (record {
        spans = rw shape-FunctionName (take_at at kind.FunctionName [] s m m i j refl);
        fits = rw shape-FunctionName (omega arith);
        low = rw shape-FunctionName (omega arith);
      })
  primary_takes_by s m z e at (kind.Identifier name) i j h = identifier_takes s m z e at name i j h
  primary_takes_by s m z e at (kind.Punctuator mark.LeftParen) i j h = parenthesized_takes s m z e at i j h
  primary_takes_by s m z e at _ i j h = cc

  primary_takes : (tokens : List Token) (scope : Scope) (z : State) (e : Expr) → primary_in r tokens scope ≡ Some
      (e, z) → Derives (suc below) 0 (tokens, scope) e z
  primary_takes [] scope z e h = cc
  primary_takes (t ∷ rest) scope z e h =
      primary_takes_by (t ∷ rest, scope) (rest, scope) z e t.start t.kind (first_taken t rest) refl h

  unary_takes : (s z : State) (e : Expr) → unary_at r s ≡ Some (e, z) → Derives (suc below) 2 s e z
  unfolding unary_at
  unary_takes s z e h =
      let a = bind_some (take_by a_unary s.0 s.1) _ _ h in
      let b = bind_some (r.expr (operand_rank a.0.0) a.0.2) _ _ a.2 in
      let d = expr_read (operand_rank a.0.0) a.0.2 b.0 b.1 in
      let t = took a_unary s a.0 a.1 in
      let k = kind.Punctuator (unary_mark a.0.0) in
      let x = take_at a.0.1 k (shape b.0.0).parts s a.0.2 b.0.1 (taken_as a.0.1 t.kind k s.0 a.0.2.0
      (unary_is t.kind a.0.0 t.wants) t.taken) t.scope d.spans in
      subst (λ (p : Expr × State). Derives (suc below) 2 s p.0 p.1) (same_Some (expr.Unary a.0.1 a.0.0 b.0.0, b.0.1)
      (e, z) b.2)
      (record {
        spans = rw shape-Unary (d.fits, x);
        fits = rw shape-Unary (omega arith);
        low = rw shape-Unary (omega (arith, d.low));
      })

  cast_takes : (s z : State) (e : Expr) → cast_at r s ≡ Some (e, z) → Derives (suc below) 3 s e z
  unfolding cast_at
  cast_takes s z e h =
      let a = bind_some (parenthesized_type_at r s) _ _ h in
      let b = bind_some (r.expr 3 a.0.1) _ _ a.2 in
      let d = expr_read 3 a.0.1 b.0 b.1 in
      let x = type_in_parens below r sound (shape b.0.0).parts s b.0.1 a.0 a.1 d.spans in
      subst (λ (p : Expr × State). Derives (suc below) 3 s p.0 p.1) (same_Some (
        expr.Cast a.0.0.0 a.0.0.1 b.0.0,
        b.0.1,
      ) (e, z) b.2)
      (record {
        spans = rw shape-Cast (d.fits, x.0);
        fits = rw shape-Cast (omega arith);
        low = rw shape-Cast (omega (arith, d.low, x.1));
      })

  sizeof_takes : (s m z : State) (e : Expr) (at : ℕ) → Takes at (kind.Keyword keyword.Sizeof) s.0 m.0 → s.1 ≡ m.1 →
      sizeof_at r at m ≡ Some (e, z) → Derives (suc below) 2 s e z
  unfolding sizeof_at
  sizeof_takes s m z e at i j h =
      elim (chosen (typed_in m.0 m.1) _ _ _ h) [
        | inl p ↦
            let a = bind_some (parenthesized_type_at r m) _ _ p.1 in
            let x = type_in_parens below r sound [] m a.0.1 a.0 a.1 refl in
            let y = take_at at (kind.Keyword keyword.Sizeof) (in_parens (type_name_of a.0.0.1).parts) s m a.0.1 i j
            (a.0.0.0, x.0.0, x.0.1, x.0.2) in
            subst (λ (p : Expr × State). Derives (suc below) 2 s p.0 p.1) (same_Some (
              expr.SizeofType at a.0.0.1,
              a.0.1,
            ) (e, z) a.2)
            (record {
              spans = rw shape-SizeofType y;
              fits = rw shape-SizeofType (omega arith);
              low = rw shape-SizeofType (omega (arith, x.1));
            })
        | inr p ↦
            let a = bind_some (r.expr 2 m) _ _ p.1 in
            let d = expr_read 2 m a.0 a.1 in
            let y = take_at at (kind.Keyword keyword.Sizeof) (shape a.0.0).parts s m a.0.1 i j d.spans in
            subst (λ (p : Expr × State). Derives (suc below) 2 s p.0 p.1) (same_Some (expr.SizeofExpr at a.0.0, a.0.1)
            (e, z) a.2)
            (record {
              spans = rw shape-SizeofExpr (d.fits, y);
              fits = rw shape-SizeofExpr (omega arith);
              low = rw shape-SizeofExpr (omega (arith, d.low));
            })
      ]

  sized_takes : (s z : State) (e : Expr) → sized_at r s ≡ Some (e, z) → Derives (suc below) 2 s e z
  sized_takes s z e h =
      let a = bind_some (expect_keyword keyword.Sizeof s) _ _ h in
      let x = expected_keyword keyword.Sizeof s a.0 a.1 in
      sizeof_takes s a.0.2 z e a.0.1 x.0 x.1 a.2

  looser_by : (rank rank' : ℕ) (s z : State) (e : Expr) → rank ≤ rank' → Derives (suc below) rank s e z →
      Derives (suc below) rank' s e z
  looser_by rank rank' s z e le d = record { spans = d.spans; fits = omega (arith, d.fits); low = d.low }

  pub expr_takes : (rank : ℕ) (s z : State) (e : Expr) → expr_by r (suc below) rank s ≡ Some (e, z) →
      Derives (suc below) rank s e z
  unfolding expr_by
  expr_takes zero s z e h = primary_takes s.0 s.1 z e h
  expr_takes (suc zero) s z e h =
      looped_takes 0 1 s z e (expr_by r (suc below) zero) (λ m x. expr_takes zero s m x) (omega arith) h
  expr_takes (suc (suc zero)) s z e h =
      elim (chosen (begins_by a_unary s.0) _ _ _ h) [
        | inl p ↦ unary_takes s z e p.1
        | inr p ↦
            elim (chosen (begins_keyword keyword.Sizeof s) _ _ _ p.1) [
              | inl q ↦ sized_takes s z e q.1
              | inr q ↦ looser_by 1 2 s z e (omega arith) (expr_takes (suc zero) s z e q.1)
            ]
      ]
  expr_takes (suc (suc (suc zero))) s z e h =
      elim (chosen (typed_in s.0 s.1) _ _ _ h) [
        | inl p ↦ cast_takes s z e p.1
        | inr p ↦ looser_by 2 3 s z e (omega arith) (expr_takes (suc (suc zero)) s z e p.1)
      ]
  expr_takes (suc (suc (suc (suc k)))) s z e h =
      looped_takes (suc (suc (suc k))) (suc (suc (suc (suc k)))) s z e (expr_by r (suc below) (suc (suc (suc k))))
      (λ m x. expr_takes (suc (suc (suc k))) s m x) (omega arith) h
