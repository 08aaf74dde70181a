-- What each kind of tree says, in terms of what the trees in it say.
use Rattle.std.proofs.Common.{◌≡◌, ℕ, ℤ, List, Option, Bool}
use Rattle.std.specs.Prelude.{map, option_map}
use Rattle.c_language.specs.declared.token.IntegerConstant.{IntegerConstant}
use Rattle.c_language.specs.declared.expr.UnaryOperator.{UnaryOperator}
use Rattle.c_language.specs.declared.expr.PostfixOperator.{PostfixOperator}
use Rattle.c_language.specs.declared.expr.BinaryOperator.{BinaryOperator}
use Rattle.c_language.specs.declared.expr.StorageClass.{StorageClass}
use Rattle.c_language.specs.declared.expr.Qualifier.{Qualifier}
use Rattle.c_language.specs.declared.expr.TypeWord.{TypeWord}
use Rattle.c_language.specs.declared.expr.AggregateKind.{AggregateKind}
use Rattle.c_language.specs.declared.expr.ArrayWord.{ArrayWord}
use Rattle.c_language.specs.declared.expr.TagName.{TagName}
use Rattle.c_language.specs.declared.expr.Expr.{Expr}
use Rattle.c_language.specs.declared.expr.Declarator.{Declarator}
use Rattle.c_language.specs.declared.expr.Field.{Field}
use Rattle.c_language.specs.declared.expr.Specifier.{Specifier}
use Rattle.c_language.specs.declared.expr.Enumerator.{Enumerator}
use Rattle.c_language.specs.declared.expr.MemberDeclaration.{MemberDeclaration}
use Rattle.c_language.specs.declared.expr.Parameter.{Parameter}
use Rattle.c_language.specs.declared.expr.TypeName.{TypeName}
use Rattle.c_language.specs.declared.expr.Expr.TheVariants as expr
use Rattle.c_language.specs.declared.expr.Specifier.TheVariants as specifier
use Rattle.c_language.specs.declared.expr.Field.TheVariants as field
use Rattle.c_language.specs.declared.expr.Declarator.TheVariants as declarator
use Rattle.c_language.specs.declared.expr.Declarator.TheOpen as open_
use Rattle.c_language.proofs.Folds as eq
use Rattle.c_language.specs.Scopes.{Name}
use Rattle.c_language.specs.Declares.{
  declarator_step,
  field_step,
  specifier_step,
  enumerator_step,
  member_step,
  parameter_step,
  type_name_step,
}
use Rattle.c_language.specs.Trees.{
  ExprSays,
  itself,
  typing,
  typed_step,
  typed,
  declarator_says,
  specifier_says,
  field_says,
  enumerator_says,
  member_says,
  parameter_says,
  type_name_says,
}

pub says-Integer : (at : ℕ) (constant : IntegerConstant) → typed (expr.Integer at constant) ≡
    typed_step (open_.Integer at constant)
unfolding typed declarator_says specifier_says field_says enumerator_says member_says parameter_says type_name_says
says-Integer at constant = eq.fold-Integer typing at constant

pub says-Floating : (at : ℕ) → typed (expr.Floating at) ≡ typed_step (open_.Floating at)
unfolding typed declarator_says specifier_says field_says enumerator_says member_says parameter_says type_name_says
says-Floating at = eq.fold-Floating typing at

pub says-Character : (at : ℕ) (value : ℤ) → typed (expr.Character at value) ≡ typed_step (open_.Character at value)
unfolding typed declarator_says specifier_says field_says enumerator_says member_says parameter_says type_name_says
says-Character at value = eq.fold-Character typing at value

pub says-StringLiteral : (at : ℕ) (pieces : List (List ℕ)) → typed (expr.StringLiteral at pieces) ≡
    typed_step (open_.StringLiteral at pieces)
unfolding typed declarator_says specifier_says field_says enumerator_says member_says parameter_says type_name_says
says-StringLiteral at pieces = eq.fold-StringLiteral typing at pieces

pub says-FunctionName : (at : ℕ) → typed (expr.FunctionName at) ≡ typed_step (open_.FunctionName at)
unfolding typed declarator_says specifier_says field_says enumerator_says member_says parameter_says type_name_says
says-FunctionName at = eq.fold-FunctionName typing at

pub says-Identifier : (at : ℕ) (name : Name) → typed (expr.Identifier at name) ≡ typed_step (open_.Identifier at name)
unfolding typed declarator_says specifier_says field_says enumerator_says member_says parameter_says type_name_says
says-Identifier at name = eq.fold-Identifier typing at name

pub says-Parenthesized : (at : ℕ) (x : Expr) → typed (expr.Parenthesized at x) ≡
    typed_step (open_.Parenthesized at (typed x))
unfolding typed declarator_says specifier_says field_says enumerator_says member_says parameter_says type_name_says
says-Parenthesized at x = eq.fold-Parenthesized typing at x

pub says-Subscript : (at : ℕ) (x : Expr) (y : Expr) → typed (expr.Subscript at x y) ≡
    typed_step (open_.Subscript at (typed x) (typed y))
unfolding typed declarator_says specifier_says field_says enumerator_says member_says parameter_says type_name_says
says-Subscript at x y = eq.fold-Subscript typing at x y

pub says-Call : (at : ℕ) (x : Expr) (ys : List Expr) → typed (expr.Call at x ys) ≡
    typed_step (open_.Call at (typed x) (map typed ys))
unfolding typed declarator_says specifier_says field_says enumerator_says member_says parameter_says type_name_says
says-Call at x ys = eq.fold-Call typing at x ys

pub says-Member : (at : ℕ) (x : Expr) (name : Name) → typed (expr.Member at x name) ≡
    typed_step (open_.Member at (typed x) name)
unfolding typed declarator_says specifier_says field_says enumerator_says member_says parameter_says type_name_says
says-Member at x name = eq.fold-Member typing at x name

pub says-Arrow : (at : ℕ) (x : Expr) (name : Name) → typed (expr.Arrow at x name) ≡
    typed_step (open_.Arrow at (typed x) name)
unfolding typed declarator_says specifier_says field_says enumerator_says member_says parameter_says type_name_says
says-Arrow at x name = eq.fold-Arrow typing at x name

pub says-Postfix : (at : ℕ) (op : PostfixOperator) (x : Expr) → typed (expr.Postfix at op x) ≡
    typed_step (open_.Postfix at op (typed x))
unfolding typed declarator_says specifier_says field_says enumerator_says member_says parameter_says type_name_says
says-Postfix at op x = eq.fold-Postfix typing at op x

pub says-Unary : (at : ℕ) (op : UnaryOperator) (x : Expr) → typed (expr.Unary at op x) ≡
    typed_step (open_.Unary at op (typed x))
unfolding typed declarator_says specifier_says field_says enumerator_says member_says parameter_says type_name_says
says-Unary at op x = eq.fold-Unary typing at op x

pub says-SizeofExpr : (at : ℕ) (x : Expr) → typed (expr.SizeofExpr at x) ≡ typed_step (open_.SizeofExpr at (typed x))
unfolding typed declarator_says specifier_says field_says enumerator_says member_says parameter_says type_name_says
says-SizeofExpr at x = eq.fold-SizeofExpr typing at x

pub says-SizeofType : (at : ℕ) (x : TypeName) → typed (expr.SizeofType at x) ≡
    typed_step (open_.SizeofType at (type_name_says x))
unfolding typed declarator_says specifier_says field_says enumerator_says member_says parameter_says type_name_says
says-SizeofType at x = eq.fold-SizeofType typing at x

pub says-Cast : (at : ℕ) (x : TypeName) (y : Expr) → typed (expr.Cast at x y) ≡
    typed_step (open_.Cast at (type_name_says x) (typed y))
unfolding typed declarator_says specifier_says field_says enumerator_says member_says parameter_says type_name_says
says-Cast at x y = eq.fold-Cast typing at x y

pub says-Binary : (at : ℕ) (op : BinaryOperator) (x : Expr) (y : Expr) → typed (expr.Binary at op x y) ≡
    typed_step (open_.Binary at op (typed x) (typed y))
unfolding typed declarator_says specifier_says field_says enumerator_says member_says parameter_says type_name_says
says-Binary at op x y = eq.fold-Binary typing at op x y

pub says-Conditional : (at : ℕ) (x : Expr) (y : Expr) (z : Expr) → typed (expr.Conditional at x y z) ≡
    typed_step (open_.Conditional at (typed x) (typed y) (typed z))
unfolding typed declarator_says specifier_says field_says enumerator_says member_says parameter_says type_name_says
says-Conditional at x y z = eq.fold-Conditional typing at x y z

pub says-Assign : (at : ℕ) (op : Option BinaryOperator) (x : Expr) (y : Expr) → typed (expr.Assign at op x y) ≡
    typed_step (open_.Assign at op (typed x) (typed y))
unfolding typed declarator_says specifier_says field_says enumerator_says member_says parameter_says type_name_says
says-Assign at op x y = eq.fold-Assign typing at op x y

pub says-Comma : (at : ℕ) (x : Expr) (y : Expr) → typed (expr.Comma at x y) ≡
    typed_step (open_.Comma at (typed x) (typed y))
unfolding typed declarator_says specifier_says field_says enumerator_says member_says parameter_says type_name_says
says-Comma at x y = eq.fold-Comma typing at x y

pub says-Name : (at : ℕ) (name : Name) → declarator_says (declarator.Name at name) ≡ declarator_step {E =
    ExprSays} itself (open_.Name at name)
unfolding typed declarator_says specifier_says field_says enumerator_says member_says parameter_says type_name_says
says-Name at name = eq.fold-Name typing at name

pub says-Omitted : declarator_says declarator.Omitted ≡ declarator_step {E = ExprSays} itself open_.Omitted
unfolding typed declarator_says specifier_says field_says enumerator_says member_says parameter_says type_name_says
says-Omitted = eq.fold-Omitted typing

pub says-Grouped : (at : ℕ) (x : Declarator) → declarator_says (declarator.Grouped at x) ≡ declarator_step {E =
    ExprSays} itself (open_.Grouped at (declarator_says x))
unfolding typed declarator_says specifier_says field_says enumerator_says member_says parameter_says type_name_says
says-Grouped at x = eq.fold-Grouped typing at x

pub says-Pointer : (at : ℕ) (qualifiers : List Qualifier) (x : Declarator) →
    declarator_says (declarator.Pointer at qualifiers x) ≡ declarator_step {E =
    ExprSays} itself (open_.Pointer at qualifiers (declarator_says x))
unfolding typed declarator_says specifier_says field_says enumerator_says member_says parameter_says type_name_says
says-Pointer at qualifiers x = eq.fold-Pointer typing at qualifiers x

pub says-Array : (at : ℕ) (x : Declarator) (words : List ArrayWord) (y : Option Expr) →
    declarator_says (declarator.Array at x words y) ≡ declarator_step {E =
    ExprSays} itself (open_.Array at (declarator_says x) words (option_map typed y))
unfolding typed declarator_says specifier_says field_says enumerator_says member_says parameter_says type_name_says
says-Array at x words y = eq.fold-Array typing at x words y

pub says-Function : (at : ℕ) (x : Declarator) (ys : List Parameter) (variadic : Bool) →
    declarator_says (declarator.Function at x ys variadic) ≡ declarator_step {E =
    ExprSays} itself (open_.Function at (declarator_says x) (map parameter_says ys) variadic)
unfolding typed declarator_says specifier_says field_says enumerator_says member_says parameter_says type_name_says
says-Function at x ys variadic = eq.fold-Function typing at x ys variadic

pub says-Storage : (at : ℕ) (class : StorageClass) → specifier_says (specifier.Storage at class) ≡
    specifier_step {E = ExprSays} (open_.Storage at class)
unfolding typed declarator_says specifier_says field_says enumerator_says member_says parameter_says type_name_says
says-Storage at class = eq.fold-Storage typing at class

pub says-Qualifier : (at : ℕ) (q : Qualifier) → specifier_says (specifier.Qualifier at q) ≡ specifier_step {E =
    ExprSays} (open_.Qualifier at q)
unfolding typed declarator_says specifier_says field_says enumerator_says member_says parameter_says type_name_says
says-Qualifier at q = eq.fold-Qualifier typing at q

pub says-Inline : (at : ℕ) → specifier_says (specifier.Inline at) ≡ specifier_step {E = ExprSays} (open_.Inline at)
unfolding typed declarator_says specifier_says field_says enumerator_says member_says parameter_says type_name_says
says-Inline at = eq.fold-Inline typing at

pub says-Word : (at : ℕ) (w : TypeWord) → specifier_says (specifier.Word at w) ≡ specifier_step {E =
    ExprSays} (open_.Word at w)
unfolding typed declarator_says specifier_says field_says enumerator_says member_says parameter_says type_name_says
says-Word at w = eq.fold-Word typing at w

pub says-Typedef : (at : ℕ) (name : Name) → specifier_says (specifier.Typedef at name) ≡ specifier_step {E =
    ExprSays} (open_.Typedef at name)
unfolding typed declarator_says specifier_says field_says enumerator_says member_says parameter_says type_name_says
says-Typedef at name = eq.fold-Typedef typing at name

pub says-Tag : (at : ℕ) (kind : AggregateKind) (t : TagName) → specifier_says (specifier.Tag at kind t) ≡
    specifier_step {E = ExprSays} (open_.Tag at kind t)
unfolding typed declarator_says specifier_says field_says enumerator_says member_says parameter_says type_name_says
says-Tag at kind t = eq.fold-Tag typing at kind t

pub says-Aggregate : (at : ℕ) (kind : AggregateKind) (t : Option TagName) (xs : List MemberDeclaration) →
    specifier_says (specifier.Aggregate at kind t xs) ≡ specifier_step {E =
    ExprSays} (open_.Aggregate at kind t (map member_says xs))
unfolding typed declarator_says specifier_says field_says enumerator_says member_says parameter_says type_name_says
says-Aggregate at kind t xs = eq.fold-Aggregate typing at kind t xs

pub says-EnumTag : (at : ℕ) (t : TagName) → specifier_says (specifier.EnumTag at t) ≡ specifier_step {E =
    ExprSays} (open_.EnumTag at t)
unfolding typed declarator_says specifier_says field_says enumerator_says member_says parameter_says type_name_says
says-EnumTag at t = eq.fold-EnumTag typing at t

pub says-Enumeration : (at : ℕ) (t : Option TagName) (xs : List Enumerator) (trailing : Bool) →
    specifier_says (specifier.Enumeration at t xs trailing) ≡ specifier_step {E =
    ExprSays} (open_.Enumeration at t (map enumerator_says xs) trailing)
unfolding typed declarator_says specifier_says field_says enumerator_says member_says parameter_says type_name_says
says-Enumeration at t xs trailing = eq.fold-Enumeration typing at t xs trailing

pub says-Plain : (x : Declarator) → field_says (field.Plain x) ≡ field_step {E =
    ExprSays} itself (open_.Plain (declarator_says x))
unfolding typed declarator_says specifier_says field_says enumerator_says member_says parameter_says type_name_says
says-Plain x = eq.fold-Plain typing x

pub says-Bits : (at : ℕ) (x : Option Declarator) (y : Expr) → field_says (field.Bits at x y) ≡ field_step {E =
    ExprSays} itself (open_.Bits at (option_map declarator_says x) (typed y))
unfolding typed declarator_says specifier_says field_says enumerator_says member_says parameter_says type_name_says
says-Bits at x y = eq.fold-Bits typing at x y

pub says-Enumerator : (x : Enumerator) → enumerator_says x ≡ enumerator_step {E = ExprSays} itself (record {
  at =
      x.at;
  name = x.name;
  value = (option_map typed x.value);
})
unfolding typed declarator_says specifier_says field_says enumerator_says member_says parameter_says type_name_says
says-Enumerator x = eq.fold-Enumerator typing x

pub says-MemberDeclaration : (x : MemberDeclaration) → member_says x ≡ member_step {E =
    ExprSays} (record { specifiers = (map specifier_says x.specifiers); fields = (map field_says x.fields) })
unfolding typed declarator_says specifier_says field_says enumerator_says member_says parameter_says type_name_says
says-MemberDeclaration x = eq.fold-MemberDeclaration typing x

pub says-Parameter : (x : Parameter) → parameter_says x ≡ parameter_step {E = ExprSays} (record {
  specifiers =
      (map specifier_says x.specifiers);
  declarator = (declarator_says x.declarator);
})
unfolding typed declarator_says specifier_says field_says enumerator_says member_says parameter_says type_name_says
says-Parameter x = eq.fold-Parameter typing x

pub says-TypeName : (x : TypeName) → type_name_says x ≡ type_name_step {E = ExprSays} (record {
  specifiers =
      (map specifier_says x.specifiers);
  declarator = (declarator_says x.declarator);
})
unfolding typed declarator_says specifier_says field_says enumerator_says member_says parameter_says type_name_says
says-TypeName x = eq.fold-TypeName typing x
