-- What each kind of tree says, from what the code has found of its parts: one lemma a constructor.
use Rattle.std.proofs.Common.{◌≡◌, ℕ, ℤ, List, [], ◌∷◌, ◌++◌, Option, Some, None, Bool, Result, IfOk, IsOkAnd, map, refl, sym, ap, ◌∙◌}
use Rattle.std.specs.declared.alloc.AllocError.{AllocError}
use Rattle.plain_data.proofs.Tried.{of_one}
use Rattle.c_language.specs.declared.token.IntegerConstant.{IntegerConstant}
use Rattle.c_language.specs.declared.expr.UnaryOperator.{UnaryOperator}
use Rattle.c_language.specs.declared.expr.PostfixOperator.{PostfixOperator}
use Rattle.c_language.specs.declared.expr.BinaryOperator.{BinaryOperator}
use Rattle.c_language.specs.declared.expr.Expr.{Expr}
use Rattle.c_language.specs.declared.expr.TypeName.{TypeName}
use Rattle.c_language.specs.declared.expr.Expr.TheVariants as expr
use Rattle.c_language.specs.declared.shown.Told.{Told}
use Rattle.c_language.specs.declared.shown.Shown.{Shown}
use Rattle.c_language.specs.Scopes.{Name, Scope, look_up}
use Rattle.c_language.specs.Typing as t
use Rattle.c_language.specs.Typing.{
  Typed,
  Arguments,
  typed_in,
  used,
  used_told,
  over_two,
}
use Rattle.c_declares.specs.declared.type_names.TypeSaid.{TypeSaid as Said}
use Rattle.c_language.specs.Declares.{TypeSaid}
use Rattle.c_declares.specs.Views.{type_said_in}
use Rattle.c_language.specs.Trees.{Through, through_one, typed, type_name_says, through}
use Rattle.c_typing.specs.Parts.{behind}
use Rattle.c_language.proofs.Equations as eq

-- ---- children

-- what is said of a child that was read through its owner
pub of-child : {x : Typed} {e e' : Expr} (s : Scope) → x ≡ typed e s → e ≡ e' → x ≡ typed e' s
of-child s said is = said ∙ ap (λ (z : Expr). typed z s) is

pub of-name : {x : TypeSaid} {n n' : TypeName} (s : Scope) → x ≡ type_name_says n s → n ≡ n' → x ≡ type_name_says n' s
of-name s said is = said ∙ ap (λ (z : TypeName). type_name_says z s) is

pub of-arguments : {x : Through} {ys ys' : List Expr} (before : Through) → x ≡ through before (map typed ys) →
    ys ≡ ys' → x ≡ through before (map typed ys')
of-arguments before said is = said ∙ ap (λ (z : List Expr). through before (map typed z)) is

-- a part that was taken as a value, with what was said of it before
pub record WasValued (e : Expr) (s : Scope) (u : Told) (s1 : Scope) : Type 0 where
  pub part : Told
  pub said : typed_in part s1 ≡ typed e s
  pub is : u ≡ used_told s1.tables part

pub valued : (e e' : Expr) (s s1 : Scope) (x u : Result Told AllocError) → IfOk x (λ v. typed_in v s1 ≡ typed e s) →
    e ≡ e' → IfOk u (λ w. IsOkAnd x (λ v. w ≡ used_told s1.tables v)) → IfOk u (λ w. WasValued e' s w s1)
valued e e' s s1 x u found same said =
    of_one x u (λ v. typed_in v s1 ≡ typed e s) (λ w v. w ≡ used_told s1.tables v) (λ w. WasValued e' s w s1) found said
    (λ v w h is. record { part = v; said = of-child s h same; is = is })

-- ---- primary expressions

pub on-Integer : {e : Expr} (at : ℕ) (constant : IntegerConstant) {s : Scope} {z : Told} →
    e ≡ expr.Integer at constant → z ≡ t.integer_told at constant → typed_in z s ≡ typed e s
on-Integer at constant is said = rw (is, eq.says-Integer at constant, said) refl

pub on-Floating : {e : Expr} (at : ℕ) {s : Scope} {z : Told} → e ≡ expr.Floating at → z ≡ t.floating_told at →
    typed_in z s ≡ typed e s
on-Floating at is said = rw (is, eq.says-Floating at, said) refl

pub on-Character : {e : Expr} (at : ℕ) (value : ℤ) {s : Scope} {z : Told} → e ≡ expr.Character at value →
    z ≡ t.character_told at value → typed_in z s ≡ typed e s
on-Character at value is said = rw (is, eq.says-Character at value, said) refl

pub on-StringLiteral : {e : Expr} (at : ℕ) (pieces : List (List ℕ)) {s : Scope} {z : Told} →
    e ≡ expr.StringLiteral at pieces → z ≡ t.node at (t.literal_shown s.tables pieces) [] → typed_in z s ≡ typed e s
on-StringLiteral at pieces is said = rw (is, eq.says-StringLiteral at pieces, said) refl

pub on-FunctionName : {e : Expr} (at : ℕ) (s : Scope) (z : Told) → e ≡ expr.FunctionName at →
    typed_in z s ≡ t.function_name at s.function s → typed_in z s ≡ typed e s
on-FunctionName at s z is said =
    rw (is, eq.says-FunctionName at) said

pub on-Identifier : {e : Expr} (at : ℕ) (name : Name) {s : Scope} {z : Told} → e ≡ expr.Identifier at name →
    z ≡ t.named_told at (look_up s name) → typed_in z s ≡ typed e s
on-Identifier at name is said = rw (is, eq.says-Identifier at name, said) refl

pub on-Parenthesized : {e : Expr} (at : ℕ) (inner : Expr) (s s1 : Scope) (z : Told) →
    e ≡ expr.Parenthesized at inner → typed_in z s1 ≡ typed inner s → typed_in z s1 ≡ typed e s
on-Parenthesized at inner s s1 z is said =
    rw (is, eq.says-Parenthesized at inner) said

-- ---- one operand

pub on-Member : {e : Expr} (at : ℕ) (object : Expr) (name : Name) (s s1 : Scope) (x z : Told) →
    e ≡ expr.Member at object name → typed_in x s1 ≡ typed object s →
    typed_in z s1 ≡ t.member at name (typed_in x s1) → typed_in z s1 ≡ typed e s
on-Member at object name s s1 x z is first said =
    rw (is, eq.says-Member at object name, sym first) said

pub on-Arrow : {e : Expr} (at : ℕ) (pointer : Expr) (name : Name) (s s1 : Scope) (x z : Told) →
    e ≡ expr.Arrow at pointer name → typed_in x s1 ≡ typed pointer s →
    typed_in z s1 ≡ t.arrow at name (typed_in x s1) → typed_in z s1 ≡ typed e s
on-Arrow at pointer name s s1 x z is first said =
    rw (is, eq.says-Arrow at pointer name, sym first) said

pub on-Postfix : {e : Expr} (at : ℕ) (operator : PostfixOperator) (operand : Expr) (s s1 : Scope) (x z : Told) →
    e ≡ expr.Postfix at operator operand → typed_in x s1 ≡ typed operand s →
    typed_in z s1 ≡ t.postfix at (typed_in x s1) → typed_in z s1 ≡ typed e s
on-Postfix at operator operand s s1 x z is first said =
    rw (is, eq.says-Postfix at operator operand, sym first) said

pub on-Unary : {e : Expr} (at : ℕ) (operator : UnaryOperator) (operand : Expr) (s s1 : Scope) (x z : Told) →
    e ≡ expr.Unary at operator operand → typed_in x s1 ≡ typed operand s →
    typed_in z s1 ≡ t.unary at operator (typed_in x s1) → typed_in z s1 ≡ typed e s
on-Unary at operator operand s s1 x z is first said =
    rw (is, eq.says-Unary at operator operand, sym first) said

pub on-SizeofExpr : {e : Expr} (at : ℕ) (operand : Expr) (s s1 : Scope) (x z : Told) →
    e ≡ expr.SizeofExpr at operand → typed_in x s1 ≡ typed operand s →
    typed_in z s1 ≡ t.size_of_expression at (typed_in x s1) → typed_in z s1 ≡ typed e s
on-SizeofExpr at operand s s1 x z is first said =
    rw (is, eq.says-SizeofExpr at operand, sym first) said

-- ---- two operands

pub on-Subscript : {e : Expr} (at : ℕ) (array index : Expr) (s s1 s2 : Scope) (x u y z : Told) →
    e ≡ expr.Subscript at array index → typed_in x s1 ≡ typed array s → u ≡ used_told s1.tables x →
    typed_in y s2 ≡ typed index s1 →
    typed_in z s2 ≡ over_two at (typed_in u s2) (used (typed_in y s2)) (t.element s2.tables) →
    typed_in z s2 ≡ typed e s
on-Subscript at array index s s1 s2 x u y z is first value second said =
    rw (is, eq.says-Subscript at array index, sym first, sym second)
    (said ∙ ap (λ (v : Told). over_two at (typed_in v s2) (used (typed_in y s2)) (t.element s2.tables)) value)

pub on-Binary : {e : Expr} (at : ℕ) (operator : BinaryOperator) (left right : Expr) (s s1 s2 : Scope)
    (x u y z : Told) → e ≡ expr.Binary at operator left right → typed_in x s1 ≡ typed left s →
    u ≡ used_told s1.tables x → typed_in y s2 ≡ typed right s1 →
    typed_in z s2 ≡ over_two at (typed_in u s2) (used (typed_in y s2)) (t.operated s2.tables operator) →
    typed_in z s2 ≡ typed e s
on-Binary at operator left right s s1 s2 x u y z is first value second said =
    rw (is, eq.says-Binary at operator left right, sym first, sym second)
    (said ∙ ap (λ (v : Told). over_two at (typed_in v s2) (used (typed_in y s2)) (t.operated s2.tables operator)) value)

pub on-Assign : {e : Expr} (at : ℕ) (operator : Option BinaryOperator) (target value : Expr) (s s1 s2 : Scope)
    (x y z : Told) → e ≡ expr.Assign at operator target value → typed_in x s1 ≡ typed target s →
    typed_in y s2 ≡ typed value s1 →
    typed_in z s2 ≡ t.assignment at operator (typed_in x s2) (typed_in y s2) → typed_in z s2 ≡ typed e s
on-Assign at operator target value s s1 s2 x y z is first second said =
    rw (is, eq.says-Assign at operator target value, sym first, sym second) said

pub on-Comma : {e : Expr} (at : ℕ) (left right : Expr) (s s1 s2 : Scope) (x y z : Told) →
    e ≡ expr.Comma at left right → typed_in x s1 ≡ typed left s → typed_in y s2 ≡ typed right s1 →
    typed_in z s2 ≡ t.comma at (typed_in x s2) (typed_in y s2) → typed_in z s2 ≡ typed e s
on-Comma at left right s s1 s2 x y z is first second said =
    rw (is, eq.says-Comma at left right, sym first, sym second) said

-- ---- type names, calls and choices

pub on-SizeofType : {e : Expr} (at : ℕ) (name : TypeName) (s s1 : Scope) (n : Said) (z : Told) →
    e ≡ expr.SizeofType at name → type_said_in n s1 ≡ type_name_says name s →
    typed_in z s1 ≡ t.size_of_type at n.ctype n.faults s1 → typed_in z s1 ≡ typed e s
on-SizeofType at name s s1 n z is first said =
    rw (is, eq.says-SizeofType at name, sym first) said

pub on-Cast : {e : Expr} (at : ℕ) (name : TypeName) (operand : Expr) (s s1 s2 : Scope) (n : Said) (x z : Told) →
    e ≡ expr.Cast at name operand → type_said_in n s1 ≡ type_name_says name s → typed_in x s2 ≡ typed operand s1 →
    typed_in z s2 ≡ t.cast at n.ctype n.faults (typed_in x s2) → typed_in z s2 ≡ typed e s
on-Cast at name operand s s1 s2 n x z is first second said =
    rw (is, eq.says-Cast at name operand, sym first, sym second) said

pub on-Conditional : {e : Expr} (at : ℕ) (condition positive negative : Expr) (s s1 s2 s3 : Scope)
    (c u x v y z : Told) → e ≡ expr.Conditional at condition positive negative →
    typed_in c s1 ≡ typed condition s → u ≡ used_told s1.tables c → typed_in x s2 ≡ typed positive s1 →
    v ≡ used_told s2.tables x → typed_in y s3 ≡ typed negative s2 →
    z ≡ t.choice_over at u.shown v.shown (used_told s3.tables y).shown (u.faults ++ v.faults
    ++ (used_told s3.tables y).faults) → typed_in z s3 ≡ typed e s
on-Conditional at condition positive negative s s1 s2 s3 c u x v y z is first value second chosen third said =
    rw (is, eq.says-Conditional at condition positive negative, sym first, sym second, sym third, said, value, chosen)
    refl

pub on-Call : {e : Expr} (at : ℕ) (callee : Expr) (arguments : List Expr) (s s1 s2 : Scope) (f z : Told)
    (xs : Arguments) → e ≡ expr.Call at callee arguments → typed_in f s1 ≡ typed callee s →
    behind xs s2 ≡ through (behind (t.no_arguments f.faults) s1) (map typed arguments) →
    typed_in z s2 ≡ t.call at f.at f.shown xs s2 → typed_in z s2 ≡ typed e s
on-Call at callee arguments s s1 s2 f z xs is first second said =
    rw (is, eq.says-Call at callee arguments, sym first, sym second) said

pub one-argument : (s s1 : Scope) (x u : Told) (e : Expr) (xs ys : Arguments) → typed_in x s1 ≡ typed e s →
    u ≡ used_told s1.tables x → ys ≡ t.and_argument xs u → behind ys s1 ≡ through_one (behind xs s) (typed e s)
one-argument s s1 x u e xs ys first value said =
    ap (λ (z : Arguments). behind z s1) (said ∙ ap (t.and_argument xs) value)
    ∙ ap (λ (z : Typed). through_one (behind xs s) z) first
