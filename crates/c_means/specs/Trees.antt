-- What the expressions of C do: one fold over the whole syntax. `part` is what an expression is worth in a scope; what
-- declares, and stands in expressions, says what it says to the types.
use Rattle.std.specs.Prelude.{List, [], ◌∷◌}
use Rattle.c_language.specs.declared.expr.Declarator.{Declarator}
use Rattle.c_language.specs.declared.expr.Enumerator.{Enumerator}
use Rattle.c_language.specs.declared.expr.Expr.{Expr}
use Rattle.c_language.specs.declared.expr.Field.{Field}
use Rattle.c_language.specs.declared.expr.MemberDeclaration.{MemberDeclaration}
use Rattle.c_language.specs.declared.expr.Parameter.{Parameter}
use Rattle.c_language.specs.declared.expr.Specifier.{Specifier}
use Rattle.c_language.specs.declared.expr.TypeName.{TypeName}
use Rattle.c_language.specs.declared.expr.Declarator.TheOpen as open_
use Rattle.c_language.specs.Folds.{Algebra, ExprLayer, fold_declarator, fold_expr, fold_field, fold_specifier}
use Rattle.c_language.specs.Folds.{fold_enumerator, fold_member, fold_parameter, fold_type_name}
use Rattle.c_language.specs.Scopes.{Scope, look_up}
use Rattle.c_language.specs.Typing.{Typed}
use Rattle.c_language.specs.Declares.{Says, DeclaratorSays, NamedSays, TypeSays, Laying, FieldSays, Saying, Counting}
use Rattle.c_language.specs.Trees.{saying}
use Rattle.c_means.specs.Parts.{Part}
use Rattle.c_means.specs.Expressions.{integer_constant, floating_constant, character_constant, string_literal}
use Rattle.c_means.specs.Expressions.{function_name, identifier, subscript, call, member, arrow, postfix, unary}
use Rattle.c_means.specs.Expressions.{size_of_expression, size_of_type, cast, binary, choice, assignment, comma}

-- what an expression is worth, by the names in force before it
abbrev pub ExprMeans : Type 0
ExprMeans = Scope → Part

abbrev pub said : ExprMeans → Scope → Typed
said f s = (f s).typed

-- arguments from left to right, each in the scope that those before it leave
pub record Through : Type 0 where
  pub all : List Part
  pub after : Scope

abbrev pub through : List ExprMeans → Scope → Through
through [] s = record { all = []; after = s }
through (f ∷ fs) s =
    let x = f s in
    let more = through fs x.typed.after in
    record { all = x ∷ more.all; after = more.after }

-- each form in its order: type names and operands from left to right, each in the scope that those before it leave
abbrev pub part_step : ExprLayer (Says ExprMeans) → ExprMeans
part_step (open_.Integer at constant) s = integer_constant at constant s
part_step (open_.Floating at) s = floating_constant at s
part_step (open_.Character at value) s = character_constant at value s
part_step (open_.StringLiteral at pieces) s = string_literal at pieces s
part_step (open_.FunctionName at) s = function_name at s.function s
part_step (open_.Identifier at name) s = identifier at s (look_up s name)
part_step (open_.Parenthesized at inner) s = inner s
part_step (open_.Subscript at array index) s = let x = array s in subscript at x (index x.typed.after)
part_step (open_.Call at callee arguments) s =
    let f = callee s in
    let xs = through arguments f.typed.after in
    call at f xs.all xs.after
part_step (open_.Member at object name) s = member at name (object s)
part_step (open_.Arrow at pointer name) s = arrow at name (pointer s)
part_step (open_.Postfix at operator operand) s = postfix at operator (operand s)
part_step (open_.Unary at operator operand) s = unary at operator (operand s)
part_step (open_.SizeofExpr at operand) s = size_of_expression at (operand s)
part_step (open_.SizeofType at name) s = let t = name s in size_of_type at t.type t.faults t.after
part_step (open_.Cast at name operand) s = let t = name s in cast at t.type t.faults (operand t.after)
part_step (open_.Binary at operator left right) s = let x = left s in binary at operator x (right x.typed.after)
part_step (open_.Conditional at condition positive negative) s =
    let c = condition s in
    let x = positive c.typed.after in
    choice at c x (negative x.typed.after)
part_step (open_.Assign at operator target value) s = let x =
    target s in assignment at operator x (value x.typed.after)
part_step (open_.Comma at left right) s = let x = left s in comma at x (right x.typed.after)

abbrev pub meaning : Algebra (Says ExprMeans)
meaning = saying {E = ExprMeans} said part_step

-- what an expression is worth in a scope
unfoldable pub part : Expr → ExprMeans
part e = fold_expr {c = Says ExprMeans} meaning e

-- the others, as they stand among expressions
unfoldable pub declarator_said : Declarator → DeclaratorSays
declarator_said x = fold_declarator {c = Says ExprMeans} meaning x

unfoldable pub specifier_said : Specifier → Saying
specifier_said x = fold_specifier {c = Says ExprMeans} meaning x

unfoldable pub field_said : Field → FieldSays
field_said x = fold_field {c = Says ExprMeans} meaning x

unfoldable pub enumerator_said : Enumerator → Counting → Counting
enumerator_said x = fold_enumerator {c = Says ExprMeans} meaning x

unfoldable pub member_said : MemberDeclaration → Laying
member_said x = fold_member {c = Says ExprMeans} meaning x

unfoldable pub parameter_said : Parameter → NamedSays
parameter_said x = fold_parameter {c = Says ExprMeans} meaning x

unfoldable pub type_name_said : TypeName → TypeSays
type_name_said x = fold_type_name {c = Says ExprMeans} meaning x
