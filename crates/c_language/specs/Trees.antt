-- What the trees of C say (C99 6.5, 6.7): one fold over the whole syntax. `typed` is what an expression says from a
-- scope; the others
-- are what the trees that stand in expressions, and in which expressions stand, say.
use Rattle.std.specs.Prelude.{ℕ, List, [], ◌∷◌, Option, Some, None}
use Rattle.c_language.specs.declared.expr.Declarator.{Declarator}
use Rattle.c_language.specs.declared.expr.Enumerator.{Enumerator}
use Rattle.c_language.specs.declared.expr.Expr.{Expr}
use Rattle.c_language.specs.declared.expr.Field.{Field}
use Rattle.c_language.specs.declared.expr.MemberDeclaration.{MemberDeclaration}
use Rattle.c_language.specs.declared.expr.Parameter.{Parameter}
use Rattle.c_language.specs.declared.expr.Specifier.{Specifier}
use Rattle.c_language.specs.declared.expr.TypeName.{TypeName}
use Rattle.c_language.specs.declared.expr.Declarator.TheOpen as open_
use Rattle.c_language.specs.Folds.{
  Carrier,
  Algebra,
  ExprLayer,
  fold_declarator,
  fold_expr,
  fold_field,
  fold_specifier,
  fold_enumerator,
  fold_member,
  fold_parameter,
  fold_type_name,
}
use Rattle.c_language.specs.Scopes.{Name, Scope, look_up}
use Rattle.c_language.specs.Typing.{
  Typed,
  Arguments,
  told_of,
  used,
  no_arguments,
  and_argument,
  integer_constant,
  character_constant,
  floating_constant,
  string_literal,
  function_name,
  identifier,
  subscript,
  call,
  member,
  arrow,
  postfix,
  unary,
  size_of_expression,
  size_of_type,
  cast,
  binary,
  choice,
  assignment,
  comma,
}
use Rattle.c_language.specs.Declares.{
  Says,
  DeclaratorSays,
  NamedSays,
  TypeSays,
  Laying,
  FieldSays,
  Saying,
  Counting,
  declarator_step,
  field_step,
  specifier_step,
  enumerator_step,
  member_step,
  parameter_step,
  type_name_step,
}

-- what all trees but expressions say, beside what is said of expressions
abbrev pub saying : {E : Type 0} → (E → Scope → Typed) → (ExprLayer (Says E) → E) → Algebra (Says E)
saying {E} typed step = record {
  declarator = declarator_step {E = E} typed;
  expr = step;
  field = field_step {E = E} typed;
  specifier = specifier_step {E = E};
  enumerator = enumerator_step {E = E} typed;
  member = member_step {E = E};
  parameter = parameter_step {E = E};
  type_name = type_name_step {E = E};
}

abbrev pub ExprSays : Type 0
ExprSays = Scope → Typed

-- arguments so far, and the scope behind them
pub record Through : Type 0 where
  pub arguments : Arguments
  pub after : Scope

abbrev pub through_one : Through → Typed → Through
through_one x y = record { arguments = and_argument x.arguments (told_of (used y)); after = y.after }

-- arguments from left to right, each in the scope that those before it leave
abbrev pub through : Through → List ExprSays → Through
through x [] = x
through x (f ∷ fs) = through (through_one x (f x.after)) fs

abbrev pub behind_callee : Typed → Through
behind_callee f = record { arguments = no_arguments f.faults; after = f.after }

-- each form in its order: type names and operands from left to right, each in the scope that those before it leave
abbrev pub typed_step : ExprLayer (Says ExprSays) → ExprSays
typed_step (open_.Integer at constant) s = integer_constant at constant s
typed_step (open_.Floating at) s = floating_constant at s
typed_step (open_.Character at value) s = character_constant at value s
typed_step (open_.StringLiteral at pieces) s = string_literal at pieces s
typed_step (open_.FunctionName at) s = function_name at s.function s
typed_step (open_.Identifier at name) s = identifier at s (look_up s name)
typed_step (open_.Parenthesized at inner) s = inner s
typed_step (open_.Subscript at array index) s = let x = array s in subscript at x (index x.after)
typed_step (open_.Call at callee arguments) s = let f = callee s in let xs =
    through (behind_callee f) arguments in call at f.at f.shown xs.arguments xs.after
typed_step (open_.Member at object name) s = member at name (object s)
typed_step (open_.Arrow at pointer name) s = arrow at name (pointer s)
typed_step (open_.Postfix at operator operand) s = postfix at (operand s)
typed_step (open_.Unary at operator operand) s = unary at operator (operand s)
typed_step (open_.SizeofExpr at operand) s = size_of_expression at (operand s)
typed_step (open_.SizeofType at name) s = let t = name s in size_of_type at t.type t.faults t.after
typed_step (open_.Cast at name operand) s = let t = name s in cast at t.type t.faults (operand t.after)
typed_step (open_.Binary at operator left right) s = let x = left s in binary at operator x (right x.after)
typed_step (open_.Conditional at condition positive negative) s =
    let c = condition s in
    let x = positive c.after in
    choice at c x (negative x.after)
typed_step (open_.Assign at operator target value) s = let x = target s in assignment at operator x (value x.after)
typed_step (open_.Comma at left right) s = let x = left s in comma at x (right x.after)

abbrev pub itself : ExprSays → Scope → Typed
itself f = f

abbrev pub typing : Algebra (Says ExprSays)
typing = saying {E = ExprSays} itself typed_step

-- what an expression says from a scope
unfoldable pub typed : Expr → ExprSays
typed e = fold_expr {c = Says ExprSays} typing e

unfoldable pub declarator_says : Declarator → DeclaratorSays
declarator_says x = fold_declarator {c = Says ExprSays} typing x

unfoldable pub specifier_says : Specifier → Saying
specifier_says x = fold_specifier {c = Says ExprSays} typing x

unfoldable pub field_says : Field → FieldSays
field_says x = fold_field {c = Says ExprSays} typing x

unfoldable pub enumerator_says : Enumerator → Counting → Counting
enumerator_says x = fold_enumerator {c = Says ExprSays} typing x

unfoldable pub member_says : MemberDeclaration → Laying
member_says x = fold_member {c = Says ExprSays} typing x

unfoldable pub parameter_says : Parameter → NamedSays
parameter_says x = fold_parameter {c = Says ExprSays} typing x

unfoldable pub type_name_says : TypeName → TypeSays
type_name_says x = fold_type_name {c = Says ExprSays} typing x
