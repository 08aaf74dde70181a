-- What is told of an expression besides what it does: the calls in it, the functions that it calls, and whether it
-- is an address constant (C99 6.6p9). `noted` is the fold; its `part` is what the expression is worth.
use Rattle.std.specs.Prelude.{ℕ, Bool, true, false, ◌&&◌, ◌||◌, List, [], ◌∷◌, ◌++◌, Option, Some, None, is_some}
use Rattle.c_language.specs.declared.expr.BinaryOperator.{BinaryOperator}
use Rattle.c_language.specs.declared.expr.BinaryOperator.TheVariants as o
use Rattle.c_language.specs.declared.expr.Expr.{Expr}
use Rattle.c_language.specs.declared.expr.UnaryOperator.{UnaryOperator}
use Rattle.c_language.specs.declared.expr.UnaryOperator.TheVariants as u
use Rattle.c_language.specs.declared.expr.Declarator.{Declarator}
use Rattle.c_language.specs.declared.expr.Declarator.TheOpen as open_
use Rattle.c_language.specs.declared.expr.Specifier.{Specifier}
use Rattle.c_language.specs.declared.expr.Enumerator.{Enumerator}
use Rattle.c_language.specs.declared.expr.Field.{Field}
use Rattle.c_language.specs.declared.expr.MemberDeclaration.{MemberDeclaration}
use Rattle.c_language.specs.declared.expr.Parameter.{Parameter}
use Rattle.c_language.specs.declared.expr.TypeName.{TypeName}
use Rattle.c_language.specs.Folds.{Algebra, ExprLayer, fold_expr, fold_declarator, fold_specifier}
use Rattle.c_language.specs.Folds.{fold_field, fold_enumerator, fold_member, fold_parameter, fold_type_name}
use Rattle.c_language.specs.declared.ctype.CType.{CType}
use Rattle.c_language.specs.Types.{is_pointer, is_array, is_function}
use Rattle.c_language.specs.declared.scope.Duration.TheVariants as duration
use Rattle.c_language.specs.declared.scope.Entry.{Entry}
use Rattle.c_language.specs.declared.scope.Means.{Means}
use Rattle.c_language.specs.declared.scope.Means.TheVariants as means
use Rattle.c_language.specs.Scopes.{Name, Scope, look_up}
use Rattle.c_language.specs.Typing.{Typed, type_of, constant_of}
use Rattle.c_language.specs.Declares.{Says, DeclaratorSays, NamedSays, TypeSays, Laying, FieldSays, Saying, Counting}
use Rattle.c_language.specs.Trees.{saying}
use Rattle.c_means.specs.Parts.{Part, Level, Site}
use Rattle.c_means.specs.Expressions.{integer_constant, floating_constant, character_constant, string_literal}
use Rattle.c_means.specs.Expressions.{function_name}
use Rattle.c_means.specs.Expressions.{identifier, subscript, call, member, arrow, postfix, unary, size_of_expression}
use Rattle.c_means.specs.Expressions.{size_of_type}
use Rattle.c_means.specs.Expressions.{cast, binary, choice, assignment, comma, site, passed, parameters_of, designated}

-- ---- what is told

-- `calls` are all calls, `called` the functions that are called where the call is evaluated. `is_place` tells that
-- the expression is an lvalue or function whose address is constant, `is_address` that its value is an address
-- constant.
pub record Notes : Type 0 where
  pub calls : List (Level → Site)
  pub called : List Name
  pub is_place : Bool
  pub is_address : Bool

-- an expression, and what is told of it
pub record Noted : Type 0 where
  pub part : Part
  pub notes : Notes

abbrev pub ExprNoted : Type 0
ExprNoted = Scope → Noted

-- ---- one node over its parts

abbrev pub alone : Notes
alone = record { calls = []; called = []; is_place = false; is_address = false }

abbrev pub over : Notes → Notes
over x = record { calls = x.calls; called = x.called; is_place = false; is_address = false }

abbrev pub over_two : Notes → Notes → Notes
over_two x y = record {
  calls = x.calls ++ y.calls;
  called = x.called ++ y.called;
  is_place = false;
  is_address = false;
}

abbrev pub over_three : Notes → Notes → Notes → Notes
over_three x y z = record {
  calls = x.calls ++ y.calls ++ z.calls;
  called = x.called ++ y.called ++ z.called;
  is_place = false;
  is_address = false;
}

-- ---- address constants (C99 6.6p9)

abbrev pub is_constant : Part → Bool
is_constant p = is_some (constant_of p.typed)

-- an array or function at a constant address is an address constant itself
abbrev pub is_address_in : Option CType → Bool
is_address_in None = false
is_address_in (Some t) = is_array t || is_function t

abbrev pub fixed_place : Bool → Typed → Notes → Notes
fixed_place fixed x n = record n { is_place = fixed; is_address = fixed && is_address_in (type_of x) }

abbrev pub fixed_value : Bool → Notes → Notes
fixed_value fixed n = record n { is_address = fixed }

-- an object that lives throughout the run, or a function
abbrev pub is_fixed : Means → Bool
is_fixed (means.Object t duration.Static linkage) = true
is_fixed (means.Object t duration.Automatic linkage) = false
is_fixed (means.Function t linkage) = true
is_fixed (means.Typedef t) = false
is_fixed (means.Constant z) = false
is_fixed means.Faulty = false

abbrev pub is_fixed_name : Option Entry → Bool
is_fixed_name None = false
is_fixed_name (Some e) = is_fixed e.means

-- an address and a constant
abbrev pub is_moved : Noted → Noted → Bool
is_moved x y = (x.notes.is_address && is_constant y.part) || (is_constant x.part && y.notes.is_address)

abbrev pub is_static_pointer : Option CType → Bool
is_static_pointer None = false
is_static_pointer (Some t) = is_pointer t

-- what a static object may be initialised with: an integer constant, or an address constant (C99 6.7.8p4)
abbrev pub is_static_value : Noted → Bool
is_static_value x = is_constant x.part || x.notes.is_address

-- ---- forms

abbrev pub leaf : Part → Noted
leaf p = record { part = p; notes = alone }

abbrev pub placed_leaf : Bool → Part → Noted
placed_leaf fixed p = record { part = p; notes = fixed_place fixed p.typed alone }

abbrev pub placed_over : Bool → Part → Notes → Noted
placed_over fixed p n = record { part = p; notes = fixed_place fixed p.typed n }

abbrev pub valued_over : Bool → Part → Notes → Noted
valued_over fixed p n = record { part = p; notes = fixed_value fixed n }

abbrev pub unary_noted : ℕ → UnaryOperator → Noted → Noted
unary_noted at u.Address x = valued_over x.notes.is_place (unary at u.Address x.part) (over x.notes)
unary_noted at u.Indirection x = placed_over x.notes.is_address (unary at u.Indirection x.part) (over x.notes)
unary_noted at op x = valued_over false (unary at op x.part) (over x.notes)

abbrev pub binary_noted : ℕ → BinaryOperator → Noted → Noted → Noted
binary_noted at o.Add x y = valued_over (is_moved x y) (binary at o.Add x.part y.part) (over_two x.notes y.notes)
binary_noted at o.Subtract x y =
    valued_over (x.notes.is_address && is_constant y.part) (binary at o.Subtract x.part y.part)
    (over_two x.notes y.notes)
binary_noted at op x y = valued_over false (binary at op x.part y.part) (over_two x.notes y.notes)

abbrev pub cast_noted : Part → Noted → Noted
cast_noted p x = valued_over (is_static_value x && is_static_pointer (type_of p.typed)) p (over x.notes)

abbrev pub choice_noted : ℕ → Noted → Noted → Noted → Noted
choice_noted at c x y =
    valued_over (is_constant c.part && is_static_value x && is_static_value y) (choice at c.part x.part y.part)
    (over_three c.notes x.notes y.notes)

-- its operand isn't evaluated; the calls in it are those that keep the rules of calls
abbrev pub unevaluated : Notes → Notes
unevaluated x = record alone { calls = x.calls }

-- arguments from left to right, each in the scope that those before it leave
pub record Through : Type 0 where
  pub parts : List Part
  pub calls : List (Level → Site)
  pub called : List Name
  pub after : Scope

abbrev pub through : List ExprNoted → Scope → Through
through [] s = record { parts = []; calls = []; called = []; after = s }
through (f ∷ fs) s =
    let x = f s in
    let more = through fs x.part.typed.after in
    record {
      parts = x.part ∷ more.parts;
      calls = x.notes.calls ++ more.calls;
      called = x.notes.called ++ more.called;
      after = more.after;
    }

-- the call itself, where it breaks no rule of types
abbrev pub site_of : Option Entry → Option CType → Part → List Part → Typed → Scope → List (Level → Site)
site_of None t f ps x s = []
site_of (Some e) None f ps x s = []
site_of (Some e) (Some t) f ps x s = site f.typed.at e x (passed ps (parameters_of s.tables (type_of f.typed))) ∷ []

abbrev pub name_of : Option Entry → List Name
name_of None = []
name_of (Some e) = e.name ∷ []

abbrev pub call_noted : Part → Noted → Through → Noted
call_noted p f xs = record {
  part = p;
  notes = record {
    calls = f.notes.calls ++ xs.calls
        ++ site_of (designated f.part.typed.shown) (type_of p.typed) f.part xs.parts p.typed xs.after;
    called = f.notes.called ++ xs.called ++ name_of (designated f.part.typed.shown);
    is_place = false;
    is_address = false;
  };
}

-- ---- the fold

abbrev pub noted_step : ExprLayer (Says ExprNoted) → ExprNoted
noted_step (open_.Integer at constant) s = leaf (integer_constant at constant s)
noted_step (open_.Floating at) s = leaf (floating_constant at s)
noted_step (open_.Character at value) s = leaf (character_constant at value s)
noted_step (open_.StringLiteral at pieces) s = placed_leaf true (string_literal at pieces s)
noted_step (open_.FunctionName at) s = placed_leaf true (function_name at s.function s)
noted_step (open_.Identifier at name) s =
    placed_leaf (is_fixed_name (look_up s name)) (identifier at s (look_up s name))
noted_step (open_.Parenthesized at inner) s = inner s
noted_step (open_.Subscript at array index) s =
    let x = array s in
    let y = index x.part.typed.after in
    placed_over (is_moved x y) (subscript at x.part y.part) (over_two x.notes y.notes)
noted_step (open_.Call at callee arguments) s =
    let f = callee s in
    let xs = through arguments f.part.typed.after in
    call_noted (call at f.part xs.parts xs.after) f xs
noted_step (open_.Member at object name) s =
    let x = object s in placed_over x.notes.is_place (member at name x.part) (over x.notes)
noted_step (open_.Arrow at pointer name) s =
    let x = pointer s in placed_over x.notes.is_address (arrow at name x.part) (over x.notes)
noted_step (open_.Postfix at operator operand) s =
    let x = operand s in valued_over false (postfix at operator x.part) (over x.notes)
noted_step (open_.Unary at operator operand) s = unary_noted at operator (operand s)
noted_step (open_.SizeofExpr at operand) s =
    let x = operand s in valued_over false (size_of_expression at x.part) (unevaluated x.notes)
noted_step (open_.SizeofType at name) s = let t = name s in leaf (size_of_type at t.type t.faults t.after)
noted_step (open_.Cast at name operand) s =
    let t = name s in
    let x = operand t.after in
    cast_noted (cast at t.type t.faults x.part) x
noted_step (open_.Binary at operator left right) s =
    let x = left s in binary_noted at operator x (right x.part.typed.after)
noted_step (open_.Conditional at condition positive negative) s =
    let c = condition s in
    let x = positive c.part.typed.after in
    choice_noted at c x (negative x.part.typed.after)
noted_step (open_.Assign at operator target value) s =
    let x = target s in
    let y = value x.part.typed.after in
    valued_over false (assignment at operator x.part y.part) (over_two x.notes y.notes)
noted_step (open_.Comma at left right) s =
    let x = left s in
    let y = right x.part.typed.after in
    valued_over false (comma at x.part y.part) (over_two x.notes y.notes)

abbrev pub typed_as : ExprNoted → Scope → Typed
typed_as f s = (f s).part.typed

abbrev pub noting : Algebra (Says ExprNoted)
noting = saying {E = ExprNoted} typed_as noted_step

-- an expression in a scope, and what is told of it
unfoldable pub noted : Expr → ExprNoted
noted e = fold_expr {c = Says ExprNoted} noting e

-- the others, as they stand among such expressions
unfoldable pub declarator_noted : Declarator → DeclaratorSays
declarator_noted x = fold_declarator {c = Says ExprNoted} noting x

unfoldable pub specifier_noted : Specifier → Saying
specifier_noted x = fold_specifier {c = Says ExprNoted} noting x

unfoldable pub field_noted : Field → FieldSays
field_noted x = fold_field {c = Says ExprNoted} noting x

unfoldable pub enumerator_noted : Enumerator → Counting → Counting
enumerator_noted x = fold_enumerator {c = Says ExprNoted} noting x

unfoldable pub member_noted : MemberDeclaration → Laying
member_noted x = fold_member {c = Says ExprNoted} noting x

unfoldable pub parameter_noted : Parameter → NamedSays
parameter_noted x = fold_parameter {c = Says ExprNoted} noting x

unfoldable pub type_name_noted : TypeName → TypeSays
type_name_noted x = fold_type_name {c = Says ExprNoted} noting x
