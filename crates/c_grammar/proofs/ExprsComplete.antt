-- What the grammar derives is read: each kind of expression (C99 6.5).
use Rattle.std.proofs.Common.{
  ◌≡◌,
  ◌≤◌,
  ◌<◌,
  ℕ,
  ℤ,
  zero,
  suc,
  pred,
  List,
  [],
  ◌∷◌,
  ◌++◌,
  length,
  Option,
  Some,
  None,
  true,
  false,
  refl,
  ap,
  ◌∙◌,
  subst,
  arith,
}
use Rattle.std.specs.Prelude.{map}
use Rattle.std.proofs.lemmas.Option.{same_Some}
use Rattle.c_language.specs.declared.token.IntegerConstant.{IntegerConstant}
use Rattle.c_language.specs.declared.token.Token.{Token}
use Rattle.c_language.specs.declared.token.TokenKind.{TokenKind}
use Rattle.c_language.specs.declared.token.TokenKind.TheVariants as kind
use Rattle.c_language.specs.declared.token.Punctuator.{Punctuator}
use Rattle.c_language.specs.declared.token.Punctuator.TheVariants as mark
use Rattle.c_language.specs.declared.expr.UnaryOperator.{UnaryOperator}
use Rattle.c_language.specs.declared.expr.UnaryOperator.TheVariants as unary
use Rattle.c_language.specs.declared.expr.PostfixOperator.{PostfixOperator}
use Rattle.c_language.specs.declared.expr.PostfixOperator.TheVariants as postfix
use Rattle.c_language.specs.declared.expr.BinaryOperator.{BinaryOperator}
use Rattle.c_language.specs.declared.expr.BinaryOperator.TheVariants as binary
use Rattle.c_language.specs.declared.expr.Expr.{Expr}
use Rattle.c_language.specs.declared.expr.Expr.TheVariants as expr
use Rattle.c_language.specs.declared.expr.TypeName.{TypeName}
use Rattle.c_grammar.specs.Parts.{Name, Part, takes, holds, Scope, State, Takes, Spans}
use Rattle.c_grammar.specs.Spelling.{unary_mark, operand_rank, postfix_mark, binary_mark, rank_of, assign_mark}
use Rattle.c_grammar.specs.Operators.{unary_of, binding_of}
use Rattle.c_grammar.specs.Grammar.{
  shape,
  Piece,
  type_name_of,
  takes_mark,
  takes_mark_at,
  later,
  highest,
  piece_of_rank,
  argument_parts,
  highest_shape,
  more_literals,
  literal_parts,
  assign_parts,
}
use Rattle.c_grammar.specs.Reading.{
  Rules,
  rules,
  expr_by,
  extend_by,
  extend_in,
  a_literal,
  begins_by,
  begins,
  typed_in,
  binds,
  binds_in,
  binding,
  more_arguments_at,
  arguments_at,
  subscript_at,
  call_at,
  member_of_at,
  arrow_at,
  conditional_at,
  assign_at,
  binary_at,
  comma_at,
  parenthesized_at,
  literal_at,
  parenthesized_type_at,
  sizeof_at,
  unary_at,
  cast_at,
}
use Rattle.c_grammar.proofs.Spans.{split, no_more, one_less}
use Rattle.c_language.proofs.Induction.{Each}
use Rattle.c_grammar.proofs.Equations.{
  shape-Integer,
  shape-Floating,
  shape-Character,
  shape-StringLiteral,
  shape-FunctionName,
  shape-Identifier,
  shape-Parenthesized,
  shape-Subscript,
  shape-Call,
  shape-Member,
  shape-Arrow,
  shape-Postfix,
  shape-Unary,
  shape-SizeofExpr,
  shape-SizeofType,
  shape-Cast,
  shape-Binary,
  shape-Conditional,
  shape-Assign,
  shape-Comma,
}
use Rattle.c_grammar.proofs.Begins.{token, taken, rank_most, rank_least, sized, starts, not_opening}
use Rattle.c_grammar.proofs.Reach.{
  nat_le_is,
  gap_in,
  left_1,
  left_16,
  left_binary,
  Ends,
  stopped,
  loop_binary,
  BaseOf,
  ExprRead,
  inner,
  grown,
  left_base,
  behind,
}
use Rattle.c_grammar.proofs.Read.{Spelling, run_read, Ended, TypeNameRead, type_name_begins}

-- behind a token that is no operator
pub close_bound : {at : ℕ} {m : Punctuator} {rest : List Token} (s : State) → Takes at (kind.Punctuator m) s.0 rest →
    16 < binding_of m → 16 < binds s
close_bound s t h = rw (taken t) h

-- ---- primary expressions (C99 6.5.1)

pub integer_base : (at : ℕ) (constant : IntegerConstant) → BaseOf (expr.Integer at constant)
    (shape (expr.Integer at constant))
unfolding expr_by
integer_base at constant = rw shape-Integer (record {
  ends = λ below s z x low h. rw (taken x.1) (ap (λ (q : State). Some (expr.Integer at constant, q)) x.2);
  reach = λ below s z x low left h. absurd (omega (arith, left.some));
})

pub floating_base : (at : ℕ) → BaseOf (expr.Floating at) (shape (expr.Floating at))
unfolding expr_by
floating_base at = rw shape-Floating (record {
  ends = λ below s z x low h. rw (taken x.1) (ap (λ (q : State). Some (expr.Floating at, q)) x.2);
  reach = λ below s z x low left h. absurd (omega (arith, left.some));
})

pub character_base : (at : ℕ) (value : ℤ) → BaseOf (expr.Character at value) (shape (expr.Character at value))
unfolding expr_by
character_base at value = rw shape-Character (record {
  ends = λ below s z x low h. rw (taken x.1) (ap (λ (q : State). Some (expr.Character at value, q)) x.2);
  reach = λ below s z x low left h. absurd (omega (arith, left.some));
})

pub function_name_base : (at : ℕ) → BaseOf (expr.FunctionName at) (shape (expr.FunctionName at))
unfolding expr_by
function_name_base at = rw shape-FunctionName (record {
  ends = λ below s z x low h. rw (taken x.1) (ap (λ (q : State). Some (expr.FunctionName at, q)) x.2);
  reach = λ below s z x low left h. absurd (omega (arith, left.some));
})

pub identifier_base : (at : ℕ) (name : Name) → BaseOf (expr.Identifier at name) (shape (expr.Identifier at name))
unfolding expr_by
identifier_base at name = rw shape-Identifier (record {
  ends = λ below s z x low h. rw (taken x.1.1, x.0) (ap (λ (q : State). Some (expr.Identifier at name, q)) x.1.2);
  reach = λ below s z x low left h. absurd (omega (arith, left.some));
})

-- a literal binds most of all: where anything looser comes next, none does
no_literal_by : (k : TokenKind) → 0 < binding k → a_literal k ≡ None
no_literal_by (kind.StringLiteral bytes) h = absurd (omega arith)
no_literal_by _ h = refl

no_literal : (tokens : List Token) → 0 < binds_in tokens → begins_by a_literal tokens ≡ false
no_literal [] h = refl
no_literal (t ∷ rest) h = rw (no_literal_by t.kind h) refl

literal_spelling : Spelling a_literal (λ bytes. kind.StringLiteral bytes) more_literals
literal_spelling = record { is = λ x. refl; none = refl; more = λ x xs. refl }

literals_end : (below at : ℕ) (pieces : List (List ℕ)) (s z : State) → Spans (literal_parts at pieces) s z →
    0 < binds z → Ends below 0 s (expr.StringLiteral at pieces) z
unfolding expr_by literal_at
literals_end below at [] s z x h = let none = x.0 in cc
literals_end below at (p ∷ ps) s z x h =
    let read = run_read a_literal (λ bytes. kind.StringLiteral bytes) more_literals literal_spelling
    (suc (length x.0)) ps (x.0, s.1) z (omega arith) x.2 (no_literal z.0 h) in
    rw (taken x.1, read) refl

pub literal_base : (at : ℕ) (pieces : List (List ℕ)) → BaseOf (expr.StringLiteral at pieces)
    (shape (expr.StringLiteral at pieces))
literal_base at pieces = rw shape-StringLiteral (record {
  ends = λ below s z x low h. literals_end below at pieces s z x h;
  reach = λ below s z x low left h. absurd (omega (arith, left.some));
})

pub parenthesized_base : (at : ℕ) (e : Expr) → ExprRead e → BaseOf (expr.Parenthesized at e)
    (shape (expr.Parenthesized at e))
unfolding expr_by parenthesized_at
parenthesized_base at e a = rw shape-Parenthesized (record {
  ends = λ below s z x low h.
      let p = split (shape e).parts (takes_mark mark.RightParen ∷ []) (x.0, s.1) z x.2 in
      let read = inner e a below 16 (x.0, s.1) p.0 p.1 (sized e).0 (omega arith) (close_bound p.0 p.2.2
      (omega arith)) in
      rw (taken x.1, read, taken p.2.2) (ap (λ (q : State). Some (expr.Parenthesized at e, q)) p.2.3);
  reach = λ below s z x low left h. absurd (omega (arith, left.some));
})

-- ---- postfix expressions (C99 6.5.2)

pub subscript_base : (at : ℕ) (array index : Expr) → ExprRead array → ExprRead index →
    BaseOf (expr.Subscript at array index) (shape (expr.Subscript at array index))
unfolding subscript_at
subscript_base at array index a b = left_base _ _ (λ below s z. rw shape-Subscript (λ (x : _) low h.
    let p = split (shape array).parts _ s z x.1 in
    let q = split (shape index).parts (takes_mark mark.RightBracket ∷ []) (p.2.0, p.0.1) z p.2.2 in
    let r = a.reach below 1 s p.0 p.1 x.0 (omega arith) left_1 (rw (taken p.2.1) (omega arith)) in
    let read = inner index b below 16 (p.2.0, p.0.1) q.0 q.1 (sized index).0 (omega arith) (close_bound q.0 q.2.2
    (omega arith)) in
    let extends : extend_in (rules below) array p.0.0 p.0.1 ≡ Some (expr.Subscript at array index, z) =
    rw (taken p.2.1, read, taken q.2.2) (ap (λ (w : State). Some (expr.Subscript at array index, w)) q.2.3) in
    grown below 1 s p.0 z array (expr.Subscript at array index) r (rw (taken p.2.1) refl) extends
    (rw shape-Subscript low) (behind at _ p.2.0 p.0 z ((shape index).parts ++ takes_mark mark.RightBracket ∷ []) p.2.1
    p.2.2)))

abbrev pieces_of : List Expr → List Piece
pieces_of xs = map (piece_of_rank 15) (map shape xs)

later_binds : (xs : List Expr) (s m : State) → Spans (later (pieces_of xs)) s m → 15 < binds m → 15 < binds s
later_binds [] s m y h = rw y h
later_binds (x ∷ xs) s m y h = rw (taken y.2) (omega arith)

more_arguments_read : (below n : ℕ) (xs : List Expr) (s m : State) → Each ExprRead xs → length s.0 < n →
    highest (pieces_of xs) ≤ below → Spans (later (pieces_of xs)) s m → begins mark.Comma m ≡ false → 15 < binds m →
    more_arguments_at (rules below) n s ≡ Some (xs, m)
unfolding more_arguments_at
more_arguments_read below zero xs s m each enough low y ends h = absurd (omega arith)
more_arguments_read below (suc n) [] s m each enough low y ends h =
    let e : begins mark.Comma s ≡ false = rw y ends in rw e (ap (λ (q : State). Some ([], q)) y)
more_arguments_read below (suc n) (x ∷ xs) s m each enough low y ends h =
    let p = split (shape x).parts (later (pieces_of xs)) (y.1, s.1) m y.3.1 in
    let read = inner x each.0 below 15 (y.1, s.1) p.0 p.1 y.3.0 (omega arith) (later_binds xs p.0 m p.2 h) in
    let l = one_less y.0 (kind.Punctuator mark.Comma) s.0 y.1 y.2 in
    let l' = no_more (shape x).parts (y.1, s.1) p.0 p.1 in
    let more = more_arguments_read below n xs p.0 m each.1 (omega arith) (omega arith) p.2 ends h in
    rw (taken y.2, read, more) refl

arguments_read : (below : ℕ) (xs : List Expr) (s m : State) → Each ExprRead xs → highest_shape (map shape xs) ≤
    below → Spans (argument_parts (map shape xs)) s m → {at : ℕ} {rest : List Token} →
    Takes at (kind.Punctuator mark.RightParen) m.0 rest → arguments_at (rules below) s ≡ Some (xs, m)
unfolding arguments_at
arguments_read below [] s m each low y e =
    let f : begins mark.RightParen s ≡ true = ap (λ (q : State). begins mark.RightParen q) y ∙ rw (taken e) refl in
    rw f (ap (λ (q : State). Some ([], q)) y)
arguments_read below (x ∷ xs) s m each low y e =
    let p = split (shape x).parts (later (pieces_of xs)) s m y.1 in
    let closes : 15 < binds m = rw (taken e) (omega arith) in
    let begun : begins mark.RightParen s ≡ false = not_opening mark.RightParen s.0 (starts x s p.0 p.1).opens refl in
    let read = inner x each.0 below 15 s p.0 p.1 y.0 (omega arith) (later_binds xs p.0 m p.2 closes) in
    let more = more_arguments_read below (suc (length p.0.0)) xs p.0 m each.1 (omega arith) (omega arith) p.2
    (rw (taken e) refl) closes in
    rw (begun, read, more) refl

pub call_base : (at : ℕ) (callee : Expr) (arguments : List Expr) → ExprRead callee → Each ExprRead arguments →
    BaseOf (expr.Call at callee arguments) (shape (expr.Call at callee arguments))
unfolding call_at
call_base at callee xs a each = left_base _ _ (λ below s z. rw shape-Call (λ (x : _) low h.
    let p = split (shape callee).parts _ s z x.1 in
    let q = split (argument_parts (map shape xs)) (takes_mark mark.RightParen ∷ []) (p.2.0, p.0.1) z p.2.2 in
    let r = a.reach below 1 s p.0 p.1 x.0 (omega arith) left_1 (rw (taken p.2.1) (omega arith)) in
    let read = arguments_read below xs (p.2.0, p.0.1) q.0 each (omega arith) q.1 q.2.2 in
    let extends : extend_in (rules below) callee p.0.0 p.0.1 ≡ Some (expr.Call at callee xs, z) =
    rw (taken p.2.1, read, taken q.2.2) (ap (λ (w : State). Some (expr.Call at callee xs, w)) q.2.3) in
    grown below 1 s p.0 z callee (expr.Call at callee xs) r (rw (taken p.2.1) refl) extends (rw shape-Call low)
    (behind at _ p.2.0 p.0 z (argument_parts (map shape xs) ++ takes_mark mark.RightParen ∷ []) p.2.1 p.2.2)))

pub member_base : (at : ℕ) (object : Expr) (member : Name) → ExprRead object → BaseOf (expr.Member at object member)
    (shape (expr.Member at object member))
unfolding member_of_at
member_base at object member a = left_base _ _ (λ below s z. rw shape-Member (λ (x : _) low h.
    let p = split (shape object).parts _ s z x.1 in
    let r = a.reach below 1 s p.0 p.1 x.0 (omega arith) left_1 (rw (taken p.2.1) (omega arith)) in
    let extends : extend_in (rules below) object p.0.0 p.0.1 ≡ Some (expr.Member at object member, z) =
    rw (taken p.2.1, taken p.2.2.2) (ap (λ (w : State). Some (expr.Member at object member, w)) p.2.2.3) in
    grown below 1 s p.0 z object (expr.Member at object member) r (rw (taken p.2.1) refl) extends
    (rw shape-Member low) (behind at _ p.2.0 p.0 z (takes (kind.Identifier member) ∷ []) p.2.1 p.2.2)))

pub arrow_base : (at : ℕ) (pointer : Expr) (member : Name) → ExprRead pointer → BaseOf (expr.Arrow at pointer member)
    (shape (expr.Arrow at pointer member))
unfolding arrow_at
arrow_base at pointer member a = left_base _ _ (λ below s z. rw shape-Arrow (λ (x : _) low h.
    let p = split (shape pointer).parts _ s z x.1 in
    let r = a.reach below 1 s p.0 p.1 x.0 (omega arith) left_1 (rw (taken p.2.1) (omega arith)) in
    let extends : extend_in (rules below) pointer p.0.0 p.0.1 ≡ Some (expr.Arrow at pointer member, z) =
    rw (taken p.2.1, taken p.2.2.2) (ap (λ (w : State). Some (expr.Arrow at pointer member, w)) p.2.2.3) in
    grown below 1 s p.0 z pointer (expr.Arrow at pointer member) r (rw (taken p.2.1) refl) extends
    (rw shape-Arrow low) (behind at _ p.2.0 p.0 z (takes (kind.Identifier member) ∷ []) p.2.1 p.2.2)))

postfix_extends : (r : Rules) (at : ℕ) (op : PostfixOperator) (left' : Expr) (t : Token) (rest : List Token)
    (scope : Scope) → extend_in r left' (token at (kind.Punctuator (postfix_mark op)) t ∷ rest) scope ≡ Some
    (expr.Postfix at op left', (rest, scope))
postfix_extends r at postfix.Increment left' t rest scope = refl
postfix_extends r at postfix.Decrement left' t rest scope = refl

postfix_binds : (op : PostfixOperator) → binding_of (postfix_mark op) ≡ 1
postfix_binds postfix.Increment = refl
postfix_binds postfix.Decrement = refl

pub postfix_base : (at : ℕ) (op : PostfixOperator) (operand : Expr) → ExprRead operand →
    BaseOf (expr.Postfix at op operand) (shape (expr.Postfix at op operand))
postfix_base at op operand a = left_base _ _ (λ below s z. rw shape-Postfix (λ (x : _) low h.
    let p = split (shape operand).parts _ s z x.1 in
    let b : binds p.0 ≡ 1 = rw (taken p.2.1) (postfix_binds op) in
    let r = a.reach below 1 s p.0 p.1 x.0 (omega arith) left_1 (omega arith) in
    let extends : extend_in (rules below) operand p.0.0 p.0.1 ≡ Some (expr.Postfix at op operand, z) =
    rw (taken p.2.1) (postfix_extends (rules below) at op operand p.2.1.first p.2.0 p.0.1 ∙ ap
    (λ (v : State). Some (expr.Postfix at op operand, v)) p.2.2) in
    grown below 1 s p.0 z operand (expr.Postfix at op operand) r b extends (rw shape-Postfix low)
    (behind at _ p.2.0 p.0 z [] p.2.1 p.2.2)))

-- ---- unary operators, `sizeof` and casts (C99 6.5.3, 6.5.4)

unary_is : (op : UnaryOperator) → unary_of (unary_mark op) ≡ Some op
unary_is unary.Address = refl
unary_is unary.Indirection = refl
unary_is unary.Plus = refl
unary_is unary.Minus = refl
unary_is unary.Complement = refl
unary_is unary.Not = refl
unary_is unary.Increment = refl
unary_is unary.Decrement = refl

operand_most : (op : UnaryOperator) → operand_rank op ≤ 3
operand_most op = grind arith

pub unary_base : (at : ℕ) (op : UnaryOperator) (operand : Expr) → ExprRead operand → BaseOf (expr.Unary at op operand)
    (shape (expr.Unary at op operand))
unfolding expr_by unary_at
unary_base at op operand a = rw shape-Unary (record {
  ends = λ below s z x low h.
      let g = gap_in z.0 (omega arith) in
      let most = operand_most op in
      let read = inner operand a below (operand_rank op) (x.1.0, s.1) z x.1.2 x.0 (omega arith) (omega arith) in
      rw (taken x.1.1, unary_is op, read) refl;
  reach = λ below s z x low left h. absurd (omega (arith, left.no_unary));
})

pub sizeof_expr_base : (at : ℕ) (operand : Expr) → ExprRead operand → BaseOf (expr.SizeofExpr at operand)
    (shape (expr.SizeofExpr at operand))
unfolding expr_by sizeof_at
sizeof_expr_base at operand a = rw shape-SizeofExpr (record {
  ends = λ below s z x low h.
      let read = inner operand a below 2 (x.1.0, s.1) z x.1.2 x.0 (omega arith) h in
      let begun = (starts operand (x.1.0, s.1) z x.1.2).no_cast x.0 in
      rw (taken x.1.1, begun, read) refl;
  reach = λ below s z x low left h. absurd (omega (arith, left.no_unary));
})

before_close : {at : ℕ} {rest : List Token} (z : State) → Takes at (kind.Punctuator mark.RightParen) z.0 rest → Ended z
before_close z t = record { ended = rw (taken t) refl; no_brace = rw (taken t) refl }

-- a type name in parentheses
parenthesized_type_read : (below at at' : ℕ) (x : TypeName) (s : State) (rest : List Token) (p : State)
    (rest' : List Token) → TypeNameRead x → (type_name_of x).height ≤ below →
    Takes at (kind.Punctuator mark.LeftParen) s.0 rest → Spans (type_name_of x).parts (rest, s.1) p →
    Takes at' (kind.Punctuator mark.RightParen) p.0 rest' → parenthesized_type_at (rules below) s ≡ Some (
      (at, x),
      (rest', p.1),
    )
unfolding parenthesized_type_at
parenthesized_type_read below at at' x s rest p rest' a low t y t' =
    let read = a below (rest, s.1) p y low (before_close p t') in
    rw (taken t, read, taken t') refl

parenthesized_type_begins : (at : ℕ) (x : TypeName) (s : State) (rest : List Token) (p : State) →
    Takes at (kind.Punctuator mark.LeftParen) s.0 rest → Spans (type_name_of x).parts (rest, s.1) p →
    typed_in s.0 s.1 ≡ true
parenthesized_type_begins at x s rest p t y = rw (taken t) (type_name_begins x (rest, s.1) p y)

pub sizeof_type_base : (at : ℕ) (x : TypeName) → TypeNameRead x → BaseOf (expr.SizeofType at x)
    (shape (expr.SizeofType at x))
unfolding expr_by sizeof_at
sizeof_type_base at n a = rw shape-SizeofType (record {
  ends = λ below s z x low h.
      let y = x.2 in
      let p = split (type_name_of n).parts (takes_mark mark.RightParen ∷ []) (y.1, s.1) z y.3 in
      let begun = parenthesized_type_begins y.0 n (x.0, s.1) y.1 p.0 y.2 p.1 in
      let read = parenthesized_type_read below y.0 p.2.0 n (x.0, s.1) y.1 p.0 p.2.1 a (omega arith) y.2 p.1 p.2.2 in
      rw (taken x.1, begun, read) (ap (λ (w : State). Some (expr.SizeofType at n, w)) p.2.3);
  reach = λ below s z x low left h. absurd (omega (arith, left.no_unary));
})

pub cast_base : (at : ℕ) (x : TypeName) (operand : Expr) → TypeNameRead x → ExprRead operand →
    BaseOf (expr.Cast at x operand) (shape (expr.Cast at x operand))
unfolding expr_by cast_at
cast_base at n operand a b = rw shape-Cast (record {
  ends = λ below s z x low h.
      let y = x.1 in
      let p = split (type_name_of n).parts (takes_mark mark.RightParen ∷ (shape operand).parts) (y.0, s.1) z y.2 in
      let begun = parenthesized_type_begins at n s y.0 p.0 y.1 p.1 in
      let read = parenthesized_type_read below at p.2.0 n s y.0 p.0 p.2.1 a (omega arith) y.1 p.1 p.2.2 in
      let read' = inner operand b below 3 (p.2.1, p.0.1) z p.2.3 x.0 (omega arith) h in
      rw (begun, read, read') refl;
  reach = λ below s z x low left h. absurd (omega (arith, left.no_cast));
})

-- ---- operators between operands (C99 6.5.5 to 6.5.17)

binary_extends : (r : Rules) (at : ℕ) (op : BinaryOperator) (left' : Expr) (s : State) → extend_by r left'
    (binary_mark op) at s ≡ binary_at r at op left' s
binary_extends r at binary.Multiply left' s = refl
binary_extends r at binary.Divide left' s = refl
binary_extends r at binary.Remainder left' s = refl
binary_extends r at binary.Add left' s = refl
binary_extends r at binary.Subtract left' s = refl
binary_extends r at binary.ShiftLeft left' s = refl
binary_extends r at binary.ShiftRight left' s = refl
binary_extends r at binary.Less left' s = refl
binary_extends r at binary.Greater left' s = refl
binary_extends r at binary.LessEqual left' s = refl
binary_extends r at binary.GreaterEqual left' s = refl
binary_extends r at binary.Equal left' s = refl
binary_extends r at binary.NotEqual left' s = refl
binary_extends r at binary.BitAnd left' s = refl
binary_extends r at binary.BitXor left' s = refl
binary_extends r at binary.BitOr left' s = refl
binary_extends r at binary.LogicalAnd left' s = refl
binary_extends r at binary.LogicalOr left' s = refl

binary_binds : (op : BinaryOperator) → binding_of (binary_mark op) ≡ rank_of op
binary_binds binary.Multiply = refl
binary_binds binary.Divide = refl
binary_binds binary.Remainder = refl
binary_binds binary.Add = refl
binary_binds binary.Subtract = refl
binary_binds binary.ShiftLeft = refl
binary_binds binary.ShiftRight = refl
binary_binds binary.Less = refl
binary_binds binary.Greater = refl
binary_binds binary.LessEqual = refl
binary_binds binary.GreaterEqual = refl
binary_binds binary.Equal = refl
binary_binds binary.NotEqual = refl
binary_binds binary.BitAnd = refl
binary_binds binary.BitXor = refl
binary_binds binary.BitOr = refl
binary_binds binary.LogicalAnd = refl
binary_binds binary.LogicalOr = refl

pub binary_base : (at : ℕ) (op : BinaryOperator) (left' right : Expr) → ExprRead left' → ExprRead right →
    BaseOf (expr.Binary at op left' right) (shape (expr.Binary at op left' right))
unfolding binary_at
binary_base at op left' right a b = left_base _ _ (λ below s z. rw shape-Binary (λ (x : _) low h.
    let p = split (shape left').parts _ s z x.1.1 in
    let least = rank_least op in
    let most = rank_most op in
    let is : binds p.0 ≡ rank_of op = rw (taken p.2.1) (binary_binds op) in
    let r = a.reach below (rank_of op) s p.0 p.1 x.0 (omega arith) (left_binary op) (omega arith) in
    let read = inner right b below (pred (rank_of op)) (p.2.0, p.0.1) z p.2.2 (omega arith) (omega arith)
    (omega arith) in
    let reads : binary_at (rules below) at op left' (p.2.0, p.0.1) ≡ Some (expr.Binary at op left' right, z) =
    rw read refl in
    let extends : extend_in (rules below) left' p.0.0 p.0.1 ≡ Some (expr.Binary at op left' right, z) =
    rw (taken p.2.1) (binary_extends (rules below) at op left' (p.2.0, p.0.1) ∙ reads) in
    grown below (rank_of op) s p.0 z left' (expr.Binary at op left' right) r is extends (rw shape-Binary low)
    (behind at _ p.2.0 p.0 z (shape right).parts p.2.1 p.2.2)))

pub comma_base : (at : ℕ) (first second : Expr) → ExprRead first → ExprRead second →
    BaseOf (expr.Comma at first second) (shape (expr.Comma at first second))
unfolding comma_at
comma_base at first second a b = left_base _ _ (λ below s z. rw shape-Comma (λ (x : _) low h.
    let p = split (shape first).parts _ s z x.1 in
    let r = a.reach below 16 s p.0 p.1 (sized first).0 (omega arith) left_16 (rw (taken p.2.1) (omega arith)) in
    let read = inner second b below 15 (p.2.0, p.0.1) z p.2.2 x.0 (omega arith) (omega arith) in
    let extends : extend_in (rules below) first p.0.0 p.0.1 ≡ Some (expr.Comma at first second, z) =
    rw (taken p.2.1, read) refl in
    grown below 16 s p.0 z first (expr.Comma at first second) r (rw (taken p.2.1) refl) extends (rw shape-Comma low)
    (behind at _ p.2.0 p.0 z (shape second).parts p.2.1 p.2.2)))

pub conditional_base : (at : ℕ) (condition positive negative : Expr) → ExprRead condition → ExprRead positive →
    ExprRead negative → BaseOf (expr.Conditional at condition positive negative)
    (shape (expr.Conditional at condition positive negative))
unfolding conditional_at
conditional_base at condition positive negative a b c = rw shape-Conditional (record {
  ends = λ below s z x low h.
      let p = split (shape condition).parts _ s z x.1.1 in
      let q = split (shape positive).parts _ (p.2.0, p.0.1) z p.2.2 in
      let e = a.ends below 13 s p.0 p.1 x.0 (omega arith) (rw (taken p.2.1) (omega arith)) in
      let r = loop_binary below 10 s condition p.0 e in
      let read = inner positive b below 16 (p.2.0, p.0.1) q.0 q.1 (sized positive).0 (omega arith)
      (close_bound q.0 q.2.2 (omega arith)) in
      let read' = inner negative c below 14 (q.2.1, q.0.1) z q.2.3 x.1.0 (omega arith) h in
      let tight = nat_le_is (shape condition).rank 13 x.0 in
      let extends : extend_in (rules below) condition p.0.0 p.0.1 ≡ Some (
        expr.Conditional at condition positive
            negative,
        z,
      ) = rw (taken p.2.1, tight, read, taken q.2.2, read') refl in
      stopped below 14 s (expr.Conditional at condition positive negative) z (grown below 14 s p.0 z condition
      (expr.Conditional at condition positive negative) r (rw (taken p.2.1) refl) extends
      (rw shape-Conditional low) (behind at _ p.2.0 p.0 z ((shape positive).parts ++ takes_mark mark.Colon ∷
      (shape negative).parts) p.2.1 p.2.2)) h;
  reach = λ below s z x low left h. absurd (omega (arith, left.no_conditional));
})

-- the mark is the assignment operator's
record Assigns (op : Option BinaryOperator) (m : Punctuator) : Type 0 where
  extends : (r : Rules) (at : ℕ) (left' : Expr) (s : State) → extend_by r left' m at s ≡ assign_at r at op left' s
  binds_so : binding_of m ≡ 15

assigns_as : (op : Option BinaryOperator) (m m' : Punctuator) → Some m ≡ Some m' → Assigns op m → Assigns op m'
assigns_as op m m' e x = subst (Assigns op) (same_Some m m' e) x

assigns : (op : Option BinaryOperator) (m : Punctuator) → assign_mark op ≡ Some m → Assigns op m
assigns None m e = assigns_as None mark.Equal m e (record { extends = λ r at left' s. refl; binds_so = refl })
assigns (Some binary.Multiply) m e =
    assigns_as (Some binary.Multiply) mark.StarEqual m e (record { extends = λ r at left' s. refl; binds_so = refl })
assigns (Some binary.Divide) m e =
    assigns_as (Some binary.Divide) mark.SlashEqual m e (record { extends = λ r at left' s. refl; binds_so = refl })
assigns (Some binary.Remainder) m e =
    assigns_as (Some binary.Remainder) mark.PercentEqual m e (record {
      extends = λ r at left' s. refl;
      binds_so = refl;
    })
assigns (Some binary.Add) m e =
    assigns_as (Some binary.Add) mark.PlusEqual m e (record { extends = λ r at left' s. refl; binds_so = refl })
assigns (Some binary.Subtract) m e =
    assigns_as (Some binary.Subtract) mark.MinusEqual m e (record { extends = λ r at left' s. refl; binds_so = refl })
assigns (Some binary.ShiftLeft) m e =
    assigns_as (Some binary.ShiftLeft) mark.ShiftLeftEqual m e (record {
      extends = λ r at left' s. refl;
      binds_so = refl;
    })
assigns (Some binary.ShiftRight) m e =
    assigns_as (Some binary.ShiftRight) mark.ShiftRightEqual m e (record {
      extends = λ r at left' s. refl;
      binds_so = refl;
    })
assigns (Some binary.BitAnd) m e =
    assigns_as (Some binary.BitAnd) mark.AmpersandEqual m e (record {
      extends = λ r at left' s. refl;
      binds_so = refl;
    })
assigns (Some binary.BitXor) m e =
    assigns_as (Some binary.BitXor) mark.CaretEqual m e (record { extends = λ r at left' s. refl; binds_so = refl })
assigns (Some binary.BitOr) m e =
    assigns_as (Some binary.BitOr) mark.BarEqual m e (record { extends = λ r at left' s. refl; binds_so = refl })
assigns (Some _) m e = cc

-- an assignment operator, and what follows it
record Assigned (at : ℕ) (op : Option BinaryOperator) (ps : List Part) (s z : State) : Type 0 where
  operator : Punctuator
  assigns_so : Assigns op operator
  rest : List Token
  takes_it : Takes at (kind.Punctuator operator) s.0 rest
  spans : Spans ps (rest, s.1) z

assigned_by : (at : ℕ) (op : Option BinaryOperator) (o : Option Punctuator) (ps : List Part) (s z : State) →
    assign_mark op ≡ o → Spans ((elim o as (λ _. List Part) [
      | None ↦ holds false ∷ []
      | Some m ↦ takes_mark_at at m ∷
          []
    ]) ++ ps) s z → Assigned at op ps s z
assigned_by at op None ps s z e x = let none = x.0 in cc
assigned_by at op (Some m) ps s z e x =
    record { operator = m; assigns_so = assigns op m e; rest = x.0; takes_it = x.1; spans = x.2 }

assigned : (at : ℕ) (op : Option BinaryOperator) (ps : List Part) (s z : State) → Spans (assign_parts at op ++ ps) s
    z → Assigned at op ps s z
assigned at op ps s z x = assigned_by at op (assign_mark op) ps s z refl x

pub assign_base : (at : ℕ) (op : Option BinaryOperator) (target value : Expr) → ExprRead target → ExprRead value →
    BaseOf (expr.Assign at op target value) (shape (expr.Assign at op target value))
unfolding assign_at
assign_base at op target value a b = rw shape-Assign (record {
  ends = λ below s z x low h.
      let p = split (shape target).parts _ s z x.1.1 in
      let q = assigned at op (shape value).parts p.0 z p.2 in
      let is : binds p.0 ≡ 15 = rw (taken q.takes_it) q.assigns_so.binds_so in
      let e = a.ends below 14 s p.0 p.1 (omega (arith, x.0)) (omega arith) (omega arith) in
      let r = loop_binary below 11 s target p.0 e in
      let read = inner value b below 15 (q.rest, p.0.1) z q.spans x.1.0 (omega arith) h in
      let tight = nat_le_is (shape target).rank 2 x.0 in
      let reads : assign_at (rules below) at op target (q.rest, p.0.1) ≡ Some (expr.Assign at op target value, z) =
      rw (tight, read) refl in
      let extends : extend_in (rules below) target p.0.0 p.0.1 ≡ Some (expr.Assign at op target value, z) =
      rw (taken q.takes_it) (q.assigns_so.extends (rules below) at target (q.rest, p.0.1) ∙ reads) in
      stopped below 15 s (expr.Assign at op target value) z (grown below 15 s p.0 z target (expr.Assign at op target
      value) r is extends (rw shape-Assign low) (behind at _ q.rest p.0 z (shape value).parts q.takes_it q.spans))
      h;
  reach = λ below s z x low left h. absurd (omega (arith, left.no_assignment));
})
