-- What each kind of tree is worth, in terms of what the trees in it are worth.
use Rattle.std.proofs.Common.{◌≡◌, ℕ, ℤ, List, Option, Bool}
use Rattle.std.specs.Prelude.{map, option_map}
use Rattle.c_language.specs.declared.token.IntegerConstant.{IntegerConstant}
use Rattle.c_language.specs.declared.expr.UnaryOperator.{UnaryOperator}
use Rattle.c_language.specs.declared.expr.PostfixOperator.{PostfixOperator}
use Rattle.c_language.specs.declared.expr.BinaryOperator.{BinaryOperator}
use Rattle.c_language.specs.declared.expr.StorageClass.{StorageClass}
use Rattle.c_language.specs.declared.expr.Qualifier.{Qualifier}
use Rattle.c_language.specs.declared.expr.TypeWord.{TypeWord}
use Rattle.c_language.specs.declared.expr.AggregateKind.{AggregateKind}
use Rattle.c_language.specs.declared.expr.ArrayWord.{ArrayWord}
use Rattle.c_language.specs.declared.expr.TagName.{TagName}
use Rattle.c_language.specs.declared.expr.Expr.{Expr}
use Rattle.c_language.specs.declared.expr.Declarator.{Declarator}
use Rattle.c_language.specs.declared.expr.Enumerator.{Enumerator}
use Rattle.c_language.specs.declared.expr.MemberDeclaration.{MemberDeclaration}
use Rattle.c_language.specs.declared.expr.Parameter.{Parameter}
use Rattle.c_language.specs.declared.expr.TypeName.{TypeName}
use Rattle.c_language.specs.declared.expr.Expr.TheVariants as expr
use Rattle.c_language.specs.declared.expr.Specifier.TheVariants as specifier
use Rattle.c_language.specs.declared.expr.Field.TheVariants as field
use Rattle.c_language.specs.declared.expr.Declarator.TheVariants as declarator
use Rattle.c_language.specs.declared.expr.Declarator.TheOpen as open_
use Rattle.c_language.proofs.Folds as eq
use Rattle.c_language.specs.Scopes.{Name}
use Rattle.c_language.specs.Declares.{declarator_step, field_step, specifier_step, enumerator_step, member_step}
use Rattle.c_language.specs.Declares.{parameter_step, type_name_step}
use Rattle.c_means.specs.Trees.{ExprMeans, said, meaning, part_step, part, declarator_said, specifier_said, field_said}
use Rattle.c_means.specs.Trees.{enumerator_said, member_said, parameter_said, type_name_said}

pub means-Integer : (at : ℕ) (constant : IntegerConstant) → part (expr.Integer at constant)
    ≡ part_step (open_.Integer at constant)
unfolding part declarator_said specifier_said field_said enumerator_said member_said parameter_said type_name_said
means-Integer at constant = eq.fold-Integer meaning at constant

pub means-Floating : (at : ℕ) → part (expr.Floating at) ≡ part_step (open_.Floating at)
unfolding part declarator_said specifier_said field_said enumerator_said member_said parameter_said type_name_said
means-Floating at = eq.fold-Floating meaning at

pub means-Character : (at : ℕ) (value : ℤ) → part (expr.Character at value) ≡ part_step (open_.Character at value)
unfolding part declarator_said specifier_said field_said enumerator_said member_said parameter_said type_name_said
means-Character at value = eq.fold-Character meaning at value

pub means-StringLiteral : (at : ℕ) (pieces : List (List ℕ)) → part (expr.StringLiteral at pieces)
    ≡ part_step (open_.StringLiteral at pieces)
unfolding part declarator_said specifier_said field_said enumerator_said member_said parameter_said type_name_said
means-StringLiteral at pieces = eq.fold-StringLiteral meaning at pieces

pub means-FunctionName : (at : ℕ) → part (expr.FunctionName at) ≡ part_step (open_.FunctionName at)
unfolding part declarator_said specifier_said field_said enumerator_said member_said parameter_said type_name_said
means-FunctionName at = eq.fold-FunctionName meaning at

pub means-Identifier : (at : ℕ) (name : Name) → part (expr.Identifier at name) ≡ part_step (open_.Identifier at name)
unfolding part declarator_said specifier_said field_said enumerator_said member_said parameter_said type_name_said
means-Identifier at name = eq.fold-Identifier meaning at name

pub means-Parenthesized : (at : ℕ) (x : Expr) → part (expr.Parenthesized at x)
    ≡ part_step (open_.Parenthesized at (part x))
unfolding part declarator_said specifier_said field_said enumerator_said member_said parameter_said type_name_said
means-Parenthesized at x = eq.fold-Parenthesized meaning at x

pub means-Subscript : (at : ℕ) (x : Expr) (y : Expr) → part (expr.Subscript at x y)
    ≡ part_step (open_.Subscript at (part x) (part y))
unfolding part declarator_said specifier_said field_said enumerator_said member_said parameter_said type_name_said
means-Subscript at x y = eq.fold-Subscript meaning at x y

pub means-Call : (at : ℕ) (x : Expr) (ys : List Expr) → part (expr.Call at x ys)
    ≡ part_step (open_.Call at (part x) (map part ys))
unfolding part declarator_said specifier_said field_said enumerator_said member_said parameter_said type_name_said
means-Call at x ys = eq.fold-Call meaning at x ys

pub means-Member : (at : ℕ) (x : Expr) (name : Name) → part (expr.Member at x name)
    ≡ part_step (open_.Member at (part x) name)
unfolding part declarator_said specifier_said field_said enumerator_said member_said parameter_said type_name_said
means-Member at x name = eq.fold-Member meaning at x name

pub means-Arrow : (at : ℕ) (x : Expr) (name : Name) → part (expr.Arrow at x name)
    ≡ part_step (open_.Arrow at (part x) name)
unfolding part declarator_said specifier_said field_said enumerator_said member_said parameter_said type_name_said
means-Arrow at x name = eq.fold-Arrow meaning at x name

pub means-Postfix : (at : ℕ) (op : PostfixOperator) (x : Expr) → part (expr.Postfix at op x)
    ≡ part_step (open_.Postfix at op (part x))
unfolding part declarator_said specifier_said field_said enumerator_said member_said parameter_said type_name_said
means-Postfix at op x = eq.fold-Postfix meaning at op x

pub means-Unary : (at : ℕ) (op : UnaryOperator) (x : Expr) → part (expr.Unary at op x)
    ≡ part_step (open_.Unary at op (part x))
unfolding part declarator_said specifier_said field_said enumerator_said member_said parameter_said type_name_said
means-Unary at op x = eq.fold-Unary meaning at op x

pub means-SizeofExpr : (at : ℕ) (x : Expr) → part (expr.SizeofExpr at x) ≡ part_step (open_.SizeofExpr at (part x))
unfolding part declarator_said specifier_said field_said enumerator_said member_said parameter_said type_name_said
means-SizeofExpr at x = eq.fold-SizeofExpr meaning at x

pub means-SizeofType : (at : ℕ) (x : TypeName) → part (expr.SizeofType at x)
    ≡ part_step (open_.SizeofType at (type_name_said x))
unfolding part declarator_said specifier_said field_said enumerator_said member_said parameter_said type_name_said
means-SizeofType at x = eq.fold-SizeofType meaning at x

pub means-Cast : (at : ℕ) (x : TypeName) (y : Expr) → part (expr.Cast at x y)
    ≡ part_step (open_.Cast at (type_name_said x) (part y))
unfolding part declarator_said specifier_said field_said enumerator_said member_said parameter_said type_name_said
means-Cast at x y = eq.fold-Cast meaning at x y

pub means-Binary : (at : ℕ) (op : BinaryOperator) (x : Expr) (y : Expr) → part (expr.Binary at op x y)
    ≡ part_step (open_.Binary at op (part x) (part y))
unfolding part declarator_said specifier_said field_said enumerator_said member_said parameter_said type_name_said
means-Binary at op x y = eq.fold-Binary meaning at op x y

pub means-Conditional : (at : ℕ) (x : Expr) (y : Expr) (z : Expr) → part (expr.Conditional at x y z)
    ≡ part_step (open_.Conditional at (part x) (part y) (part z))
unfolding part declarator_said specifier_said field_said enumerator_said member_said parameter_said type_name_said
means-Conditional at x y z = eq.fold-Conditional meaning at x y z

pub means-Assign : (at : ℕ) (op : Option BinaryOperator) (x : Expr) (y : Expr) → part (expr.Assign at op x y)
    ≡ part_step (open_.Assign at op (part x) (part y))
unfolding part declarator_said specifier_said field_said enumerator_said member_said parameter_said type_name_said
means-Assign at op x y = eq.fold-Assign meaning at op x y

pub means-Comma : (at : ℕ) (x : Expr) (y : Expr) → part (expr.Comma at x y)
    ≡ part_step (open_.Comma at (part x) (part y))
unfolding part declarator_said specifier_said field_said enumerator_said member_said parameter_said type_name_said
means-Comma at x y = eq.fold-Comma meaning at x y

pub means-Name : (at : ℕ) (name : Name) → declarator_said (declarator.Name at name)
    ≡ declarator_step {E = ExprMeans} said (open_.Name at name)
unfolding part declarator_said specifier_said field_said enumerator_said member_said parameter_said type_name_said
means-Name at name = eq.fold-Name meaning at name

pub means-Omitted : declarator_said declarator.Omitted ≡ declarator_step {E = ExprMeans} said open_.Omitted
unfolding part declarator_said specifier_said field_said enumerator_said member_said parameter_said type_name_said
means-Omitted = eq.fold-Omitted meaning

pub means-Grouped : (at : ℕ) (x : Declarator) → declarator_said (declarator.Grouped at x)
    ≡ declarator_step {E = ExprMeans} said (open_.Grouped at (declarator_said x))
unfolding part declarator_said specifier_said field_said enumerator_said member_said parameter_said type_name_said
means-Grouped at x = eq.fold-Grouped meaning at x

pub means-Pointer : (at : ℕ) (qualifiers : List Qualifier) (x : Declarator) →
    declarator_said (declarator.Pointer at qualifiers x)
    ≡ declarator_step {E = ExprMeans} said (open_.Pointer at qualifiers (declarator_said x))
unfolding part declarator_said specifier_said field_said enumerator_said member_said parameter_said type_name_said
means-Pointer at qualifiers x = eq.fold-Pointer meaning at qualifiers x

pub means-Array : (at : ℕ) (x : Declarator) (words : List ArrayWord) (y : Option Expr) →
    declarator_said (declarator.Array at x words y)
    ≡ declarator_step {E = ExprMeans} said (open_.Array at (declarator_said x) words (option_map part y))
unfolding part declarator_said specifier_said field_said enumerator_said member_said parameter_said type_name_said
means-Array at x words y = eq.fold-Array meaning at x words y

pub means-Function : (at : ℕ) (x : Declarator) (ys : List Parameter) (variadic : Bool) →
    declarator_said (declarator.Function at x ys variadic)
    ≡ declarator_step {E = ExprMeans} said (open_.Function at (declarator_said x) (map parameter_said ys) variadic)
unfolding part declarator_said specifier_said field_said enumerator_said member_said parameter_said type_name_said
means-Function at x ys variadic = eq.fold-Function meaning at x ys variadic

pub means-Storage : (at : ℕ) (class : StorageClass) → specifier_said (specifier.Storage at class)
    ≡ specifier_step {E = ExprMeans} (open_.Storage at class)
unfolding part declarator_said specifier_said field_said enumerator_said member_said parameter_said type_name_said
means-Storage at class = eq.fold-Storage meaning at class

pub means-Qualifier : (at : ℕ) (q : Qualifier) → specifier_said (specifier.Qualifier at q)
    ≡ specifier_step {E = ExprMeans} (open_.Qualifier at q)
unfolding part declarator_said specifier_said field_said enumerator_said member_said parameter_said type_name_said
means-Qualifier at q = eq.fold-Qualifier meaning at q

pub means-Inline : (at : ℕ) → specifier_said (specifier.Inline at) ≡ specifier_step {E = ExprMeans} (open_.Inline at)
unfolding part declarator_said specifier_said field_said enumerator_said member_said parameter_said type_name_said
means-Inline at = eq.fold-Inline meaning at

pub means-Word : (at : ℕ) (w : TypeWord) → specifier_said (specifier.Word at w)
    ≡ specifier_step {E = ExprMeans} (open_.Word at w)
unfolding part declarator_said specifier_said field_said enumerator_said member_said parameter_said type_name_said
means-Word at w = eq.fold-Word meaning at w

pub means-Typedef : (at : ℕ) (name : Name) → specifier_said (specifier.Typedef at name)
    ≡ specifier_step {E = ExprMeans} (open_.Typedef at name)
unfolding part declarator_said specifier_said field_said enumerator_said member_said parameter_said type_name_said
means-Typedef at name = eq.fold-Typedef meaning at name

pub means-Tag : (at : ℕ) (kind : AggregateKind) (t : TagName) → specifier_said (specifier.Tag at kind t)
    ≡ specifier_step {E = ExprMeans} (open_.Tag at kind t)
unfolding part declarator_said specifier_said field_said enumerator_said member_said parameter_said type_name_said
means-Tag at kind t = eq.fold-Tag meaning at kind t

pub means-Aggregate : (at : ℕ) (kind : AggregateKind) (t : Option TagName) (xs : List MemberDeclaration) →
    specifier_said (specifier.Aggregate at kind t xs)
    ≡ specifier_step {E = ExprMeans} (open_.Aggregate at kind t (map member_said xs))
unfolding part declarator_said specifier_said field_said enumerator_said member_said parameter_said type_name_said
means-Aggregate at kind t xs = eq.fold-Aggregate meaning at kind t xs

pub means-EnumTag : (at : ℕ) (t : TagName) → specifier_said (specifier.EnumTag at t)
    ≡ specifier_step {E = ExprMeans} (open_.EnumTag at t)
unfolding part declarator_said specifier_said field_said enumerator_said member_said parameter_said type_name_said
means-EnumTag at t = eq.fold-EnumTag meaning at t

pub means-Enumeration : (at : ℕ) (t : Option TagName) (xs : List Enumerator) (trailing : Bool) →
    specifier_said (specifier.Enumeration at t xs trailing)
    ≡ specifier_step {E = ExprMeans} (open_.Enumeration at t (map enumerator_said xs) trailing)
unfolding part declarator_said specifier_said field_said enumerator_said member_said parameter_said type_name_said
means-Enumeration at t xs trailing = eq.fold-Enumeration meaning at t xs trailing

pub means-Plain : (x : Declarator) → field_said (field.Plain x)
    ≡ field_step {E = ExprMeans} said (open_.Plain (declarator_said x))
unfolding part declarator_said specifier_said field_said enumerator_said member_said parameter_said type_name_said
means-Plain x = eq.fold-Plain meaning x

pub means-Bits : (at : ℕ) (x : Option Declarator) (y : Expr) → field_said (field.Bits at x y)
    ≡ field_step {E = ExprMeans} said (open_.Bits at (option_map declarator_said x) (part y))
unfolding part declarator_said specifier_said field_said enumerator_said member_said parameter_said type_name_said
means-Bits at x y = eq.fold-Bits meaning at x y

pub means-Enumerator : (x : Enumerator) → enumerator_said x
    ≡ enumerator_step {E = ExprMeans} said (record { at = x.at; name = x.name; value = (option_map part x.value) })
unfolding part declarator_said specifier_said field_said enumerator_said member_said parameter_said type_name_said
means-Enumerator x = eq.fold-Enumerator meaning x

pub means-MemberDeclaration : (x : MemberDeclaration) → member_said x
    ≡ member_step {E = ExprMeans} (record {
      specifiers = (map specifier_said x.specifiers);
      fields =
          (map field_said x.fields);
    })
unfolding part declarator_said specifier_said field_said enumerator_said member_said parameter_said type_name_said
means-MemberDeclaration x = eq.fold-MemberDeclaration meaning x

pub means-Parameter : (x : Parameter) → parameter_said x
    ≡ parameter_step {E = ExprMeans} (record {
      specifiers = (map specifier_said x.specifiers);
      declarator =
          (declarator_said x.declarator);
    })
unfolding part declarator_said specifier_said field_said enumerator_said member_said parameter_said type_name_said
means-Parameter x = eq.fold-Parameter meaning x

pub means-TypeName : (x : TypeName) → type_name_said x
    ≡ type_name_step {E = ExprMeans} (record {
      specifiers = (map specifier_said x.specifiers);
      declarator =
          (declarator_said x.declarator);
    })
unfolding part declarator_said specifier_said field_said enumerator_said member_said parameter_said type_name_said
means-TypeName x = eq.fold-TypeName meaning x
