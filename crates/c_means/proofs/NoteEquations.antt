-- What is told of each kind of tree, in terms of what is told of the trees in it.
use Rattle.std.proofs.Common.{◌≡◌, ℕ, ℤ, List, Option, Bool}
use Rattle.std.specs.Prelude.{map, option_map}
use Rattle.c_language.specs.declared.token.IntegerConstant.{IntegerConstant}
use Rattle.c_language.specs.declared.expr.UnaryOperator.{UnaryOperator}
use Rattle.c_language.specs.declared.expr.PostfixOperator.{PostfixOperator}
use Rattle.c_language.specs.declared.expr.BinaryOperator.{BinaryOperator}
use Rattle.c_language.specs.declared.expr.StorageClass.{StorageClass}
use Rattle.c_language.specs.declared.expr.Qualifier.{Qualifier}
use Rattle.c_language.specs.declared.expr.TypeWord.{TypeWord}
use Rattle.c_language.specs.declared.expr.AggregateKind.{AggregateKind}
use Rattle.c_language.specs.declared.expr.ArrayWord.{ArrayWord}
use Rattle.c_language.specs.declared.expr.TagName.{TagName}
use Rattle.c_language.specs.declared.expr.Expr.{Expr}
use Rattle.c_language.specs.declared.expr.Declarator.{Declarator}
use Rattle.c_language.specs.declared.expr.Enumerator.{Enumerator}
use Rattle.c_language.specs.declared.expr.MemberDeclaration.{MemberDeclaration}
use Rattle.c_language.specs.declared.expr.Parameter.{Parameter}
use Rattle.c_language.specs.declared.expr.TypeName.{TypeName}
use Rattle.c_language.specs.declared.expr.Expr.TheVariants as expr
use Rattle.c_language.specs.declared.expr.Specifier.TheVariants as specifier
use Rattle.c_language.specs.declared.expr.Field.TheVariants as field
use Rattle.c_language.specs.declared.expr.Declarator.TheVariants as declarator
use Rattle.c_language.specs.declared.expr.Declarator.TheOpen as open_
use Rattle.c_language.proofs.Folds as eq
use Rattle.c_language.specs.Scopes.{Name}
use Rattle.c_language.specs.Declares.{declarator_step, field_step, specifier_step, enumerator_step, member_step}
use Rattle.c_language.specs.Declares.{parameter_step, type_name_step}
use Rattle.c_means.specs.Notes.{ExprNoted, typed_as, noting, noted_step, noted, declarator_noted, specifier_noted}
use Rattle.c_means.specs.Notes.{field_noted}
use Rattle.c_means.specs.Notes.{enumerator_noted, member_noted, parameter_noted, type_name_noted}

pub notes-Integer : (at : ℕ) (constant : IntegerConstant) → noted (expr.Integer at constant)
    ≡ noted_step (open_.Integer at constant)
unfolding noted declarator_noted specifier_noted field_noted enumerator_noted member_noted parameter_noted
    type_name_noted
notes-Integer at constant = eq.fold-Integer noting at constant

pub notes-Floating : (at : ℕ) → noted (expr.Floating at) ≡ noted_step (open_.Floating at)
unfolding noted declarator_noted specifier_noted field_noted enumerator_noted member_noted parameter_noted
    type_name_noted
notes-Floating at = eq.fold-Floating noting at

pub notes-Character : (at : ℕ) (value : ℤ) → noted (expr.Character at value) ≡ noted_step (open_.Character at value)
unfolding noted declarator_noted specifier_noted field_noted enumerator_noted member_noted parameter_noted
    type_name_noted
notes-Character at value = eq.fold-Character noting at value

pub notes-StringLiteral : (at : ℕ) (pieces : List (List ℕ)) → noted (expr.StringLiteral at pieces)
    ≡ noted_step (open_.StringLiteral at pieces)
unfolding noted declarator_noted specifier_noted field_noted enumerator_noted member_noted parameter_noted
    type_name_noted
notes-StringLiteral at pieces = eq.fold-StringLiteral noting at pieces

pub notes-FunctionName : (at : ℕ) → noted (expr.FunctionName at) ≡ noted_step (open_.FunctionName at)
unfolding noted declarator_noted specifier_noted field_noted enumerator_noted member_noted parameter_noted
    type_name_noted
notes-FunctionName at = eq.fold-FunctionName noting at

pub notes-Identifier : (at : ℕ) (name : Name) → noted (expr.Identifier at name) ≡ noted_step (open_.Identifier at name)
unfolding noted declarator_noted specifier_noted field_noted enumerator_noted member_noted parameter_noted
    type_name_noted
notes-Identifier at name = eq.fold-Identifier noting at name

pub notes-Parenthesized : (at : ℕ) (x : Expr) → noted (expr.Parenthesized at x)
    ≡ noted_step (open_.Parenthesized at (noted x))
unfolding noted declarator_noted specifier_noted field_noted enumerator_noted member_noted parameter_noted
    type_name_noted
notes-Parenthesized at x = eq.fold-Parenthesized noting at x

pub notes-Subscript : (at : ℕ) (x : Expr) (y : Expr) → noted (expr.Subscript at x y)
    ≡ noted_step (open_.Subscript at (noted x) (noted y))
unfolding noted declarator_noted specifier_noted field_noted enumerator_noted member_noted parameter_noted
    type_name_noted
notes-Subscript at x y = eq.fold-Subscript noting at x y

pub notes-Call : (at : ℕ) (x : Expr) (ys : List Expr) → noted (expr.Call at x ys)
    ≡ noted_step (open_.Call at (noted x) (map noted ys))
unfolding noted declarator_noted specifier_noted field_noted enumerator_noted member_noted parameter_noted
    type_name_noted
notes-Call at x ys = eq.fold-Call noting at x ys

pub notes-Member : (at : ℕ) (x : Expr) (name : Name) → noted (expr.Member at x name)
    ≡ noted_step (open_.Member at (noted x) name)
unfolding noted declarator_noted specifier_noted field_noted enumerator_noted member_noted parameter_noted
    type_name_noted
notes-Member at x name = eq.fold-Member noting at x name

pub notes-Arrow : (at : ℕ) (x : Expr) (name : Name) → noted (expr.Arrow at x name)
    ≡ noted_step (open_.Arrow at (noted x) name)
unfolding noted declarator_noted specifier_noted field_noted enumerator_noted member_noted parameter_noted
    type_name_noted
notes-Arrow at x name = eq.fold-Arrow noting at x name

pub notes-Postfix : (at : ℕ) (op : PostfixOperator) (x : Expr) → noted (expr.Postfix at op x)
    ≡ noted_step (open_.Postfix at op (noted x))
unfolding noted declarator_noted specifier_noted field_noted enumerator_noted member_noted parameter_noted
    type_name_noted
notes-Postfix at op x = eq.fold-Postfix noting at op x

pub notes-Unary : (at : ℕ) (op : UnaryOperator) (x : Expr) → noted (expr.Unary at op x)
    ≡ noted_step (open_.Unary at op (noted x))
unfolding noted declarator_noted specifier_noted field_noted enumerator_noted member_noted parameter_noted
    type_name_noted
notes-Unary at op x = eq.fold-Unary noting at op x

pub notes-SizeofExpr : (at : ℕ) (x : Expr) → noted (expr.SizeofExpr at x) ≡ noted_step (open_.SizeofExpr at (noted x))
unfolding noted declarator_noted specifier_noted field_noted enumerator_noted member_noted parameter_noted
    type_name_noted
notes-SizeofExpr at x = eq.fold-SizeofExpr noting at x

pub notes-SizeofType : (at : ℕ) (x : TypeName) → noted (expr.SizeofType at x)
    ≡ noted_step (open_.SizeofType at (type_name_noted x))
unfolding noted declarator_noted specifier_noted field_noted enumerator_noted member_noted parameter_noted
    type_name_noted
notes-SizeofType at x = eq.fold-SizeofType noting at x

pub notes-Cast : (at : ℕ) (x : TypeName) (y : Expr) → noted (expr.Cast at x y)
    ≡ noted_step (open_.Cast at (type_name_noted x) (noted y))
unfolding noted declarator_noted specifier_noted field_noted enumerator_noted member_noted parameter_noted
    type_name_noted
notes-Cast at x y = eq.fold-Cast noting at x y

pub notes-Binary : (at : ℕ) (op : BinaryOperator) (x : Expr) (y : Expr) → noted (expr.Binary at op x y)
    ≡ noted_step (open_.Binary at op (noted x) (noted y))
unfolding noted declarator_noted specifier_noted field_noted enumerator_noted member_noted parameter_noted
    type_name_noted
notes-Binary at op x y = eq.fold-Binary noting at op x y

pub notes-Conditional : (at : ℕ) (x : Expr) (y : Expr) (z : Expr) → noted (expr.Conditional at x y z)
    ≡ noted_step (open_.Conditional at (noted x) (noted y) (noted z))
unfolding noted declarator_noted specifier_noted field_noted enumerator_noted member_noted parameter_noted
    type_name_noted
notes-Conditional at x y z = eq.fold-Conditional noting at x y z

pub notes-Assign : (at : ℕ) (op : Option BinaryOperator) (x : Expr) (y : Expr) → noted (expr.Assign at op x y)
    ≡ noted_step (open_.Assign at op (noted x) (noted y))
unfolding noted declarator_noted specifier_noted field_noted enumerator_noted member_noted parameter_noted
    type_name_noted
notes-Assign at op x y = eq.fold-Assign noting at op x y

pub notes-Comma : (at : ℕ) (x : Expr) (y : Expr) → noted (expr.Comma at x y)
    ≡ noted_step (open_.Comma at (noted x) (noted y))
unfolding noted declarator_noted specifier_noted field_noted enumerator_noted member_noted parameter_noted
    type_name_noted
notes-Comma at x y = eq.fold-Comma noting at x y

pub notes-Name : (at : ℕ) (name : Name) → declarator_noted (declarator.Name at name)
    ≡ declarator_step {E = ExprNoted} typed_as (open_.Name at name)
unfolding noted declarator_noted specifier_noted field_noted enumerator_noted member_noted parameter_noted
    type_name_noted
notes-Name at name = eq.fold-Name noting at name

pub notes-Omitted : declarator_noted declarator.Omitted ≡ declarator_step {E = ExprNoted} typed_as open_.Omitted
unfolding noted declarator_noted specifier_noted field_noted enumerator_noted member_noted parameter_noted
    type_name_noted
notes-Omitted = eq.fold-Omitted noting

pub notes-Grouped : (at : ℕ) (x : Declarator) → declarator_noted (declarator.Grouped at x)
    ≡ declarator_step {E = ExprNoted} typed_as (open_.Grouped at (declarator_noted x))
unfolding noted declarator_noted specifier_noted field_noted enumerator_noted member_noted parameter_noted
    type_name_noted
notes-Grouped at x = eq.fold-Grouped noting at x

pub notes-Pointer : (at : ℕ) (qualifiers : List Qualifier) (x : Declarator) →
    declarator_noted (declarator.Pointer at qualifiers x)
    ≡ declarator_step {E = ExprNoted} typed_as (open_.Pointer at qualifiers (declarator_noted x))
unfolding noted declarator_noted specifier_noted field_noted enumerator_noted member_noted parameter_noted
    type_name_noted
notes-Pointer at qualifiers x = eq.fold-Pointer noting at qualifiers x

pub notes-Array : (at : ℕ) (x : Declarator) (words : List ArrayWord) (y : Option Expr) →
    declarator_noted (declarator.Array at x words y)
    ≡ declarator_step {E = ExprNoted} typed_as (open_.Array at (declarator_noted x) words (option_map noted y))
unfolding noted declarator_noted specifier_noted field_noted enumerator_noted member_noted parameter_noted
    type_name_noted
notes-Array at x words y = eq.fold-Array noting at x words y

pub notes-Function : (at : ℕ) (x : Declarator) (ys : List Parameter) (variadic : Bool) →
    declarator_noted (declarator.Function at x ys variadic)
    ≡ declarator_step {E = ExprNoted} typed_as
    (open_.Function at (declarator_noted x) (map parameter_noted ys) variadic)
unfolding noted declarator_noted specifier_noted field_noted enumerator_noted member_noted parameter_noted
    type_name_noted
notes-Function at x ys variadic = eq.fold-Function noting at x ys variadic

pub notes-Storage : (at : ℕ) (class : StorageClass) → specifier_noted (specifier.Storage at class)
    ≡ specifier_step {E = ExprNoted} (open_.Storage at class)
unfolding noted declarator_noted specifier_noted field_noted enumerator_noted member_noted parameter_noted
    type_name_noted
notes-Storage at class = eq.fold-Storage noting at class

pub notes-Qualifier : (at : ℕ) (q : Qualifier) → specifier_noted (specifier.Qualifier at q)
    ≡ specifier_step {E = ExprNoted} (open_.Qualifier at q)
unfolding noted declarator_noted specifier_noted field_noted enumerator_noted member_noted parameter_noted
    type_name_noted
notes-Qualifier at q = eq.fold-Qualifier noting at q

pub notes-Inline : (at : ℕ) → specifier_noted (specifier.Inline at) ≡ specifier_step {E = ExprNoted} (open_.Inline at)
unfolding noted declarator_noted specifier_noted field_noted enumerator_noted member_noted parameter_noted
    type_name_noted
notes-Inline at = eq.fold-Inline noting at

pub notes-Word : (at : ℕ) (w : TypeWord) → specifier_noted (specifier.Word at w)
    ≡ specifier_step {E = ExprNoted} (open_.Word at w)
unfolding noted declarator_noted specifier_noted field_noted enumerator_noted member_noted parameter_noted
    type_name_noted
notes-Word at w = eq.fold-Word noting at w

pub notes-Typedef : (at : ℕ) (name : Name) → specifier_noted (specifier.Typedef at name)
    ≡ specifier_step {E = ExprNoted} (open_.Typedef at name)
unfolding noted declarator_noted specifier_noted field_noted enumerator_noted member_noted parameter_noted
    type_name_noted
notes-Typedef at name = eq.fold-Typedef noting at name

pub notes-Tag : (at : ℕ) (kind : AggregateKind) (t : TagName) → specifier_noted (specifier.Tag at kind t)
    ≡ specifier_step {E = ExprNoted} (open_.Tag at kind t)
unfolding noted declarator_noted specifier_noted field_noted enumerator_noted member_noted parameter_noted
    type_name_noted
notes-Tag at kind t = eq.fold-Tag noting at kind t

pub notes-Aggregate : (at : ℕ) (kind : AggregateKind) (t : Option TagName) (xs : List MemberDeclaration) →
    specifier_noted (specifier.Aggregate at kind t xs)
    ≡ specifier_step {E = ExprNoted} (open_.Aggregate at kind t (map member_noted xs))
unfolding noted declarator_noted specifier_noted field_noted enumerator_noted member_noted parameter_noted
    type_name_noted
notes-Aggregate at kind t xs = eq.fold-Aggregate noting at kind t xs

pub notes-EnumTag : (at : ℕ) (t : TagName) → specifier_noted (specifier.EnumTag at t)
    ≡ specifier_step {E = ExprNoted} (open_.EnumTag at t)
unfolding noted declarator_noted specifier_noted field_noted enumerator_noted member_noted parameter_noted
    type_name_noted
notes-EnumTag at t = eq.fold-EnumTag noting at t

pub notes-Enumeration : (at : ℕ) (t : Option TagName) (xs : List Enumerator) (trailing : Bool) →
    specifier_noted (specifier.Enumeration at t xs trailing)
    ≡ specifier_step {E = ExprNoted} (open_.Enumeration at t (map enumerator_noted xs) trailing)
unfolding noted declarator_noted specifier_noted field_noted enumerator_noted member_noted parameter_noted
    type_name_noted
notes-Enumeration at t xs trailing = eq.fold-Enumeration noting at t xs trailing

pub notes-Plain : (x : Declarator) → field_noted (field.Plain x)
    ≡ field_step {E = ExprNoted} typed_as (open_.Plain (declarator_noted x))
unfolding noted declarator_noted specifier_noted field_noted enumerator_noted member_noted parameter_noted
    type_name_noted
notes-Plain x = eq.fold-Plain noting x

pub notes-Bits : (at : ℕ) (x : Option Declarator) (y : Expr) → field_noted (field.Bits at x y)
    ≡ field_step {E = ExprNoted} typed_as (open_.Bits at (option_map declarator_noted x) (noted y))
unfolding noted declarator_noted specifier_noted field_noted enumerator_noted member_noted parameter_noted
    type_name_noted
notes-Bits at x y = eq.fold-Bits noting at x y

pub notes-Enumerator : (x : Enumerator) → enumerator_noted x
    ≡ enumerator_step {E = ExprNoted} typed_as
    (record { at = x.at; name = x.name; value = (option_map noted x.value) })
unfolding noted declarator_noted specifier_noted field_noted enumerator_noted member_noted parameter_noted
    type_name_noted
notes-Enumerator x = eq.fold-Enumerator noting x

pub notes-MemberDeclaration : (x : MemberDeclaration) → member_noted x
    ≡ member_step {E = ExprNoted} (record {
      specifiers = (map specifier_noted x.specifiers);
      fields =
          (map field_noted x.fields);
    })
unfolding noted declarator_noted specifier_noted field_noted enumerator_noted member_noted parameter_noted
    type_name_noted
notes-MemberDeclaration x = eq.fold-MemberDeclaration noting x

pub notes-Parameter : (x : Parameter) → parameter_noted x
    ≡ parameter_step {E = ExprNoted} (record {
      specifiers = (map specifier_noted x.specifiers);
      declarator =
          (declarator_noted x.declarator);
    })
unfolding noted declarator_noted specifier_noted field_noted enumerator_noted member_noted parameter_noted
    type_name_noted
notes-Parameter x = eq.fold-Parameter noting x

pub notes-TypeName : (x : TypeName) → type_name_noted x
    ≡ type_name_step {E = ExprNoted} (record {
      specifiers = (map specifier_noted x.specifiers);
      declarator =
          (declarator_noted x.declarator);
    })
unfolding noted declarator_noted specifier_noted field_noted enumerator_noted member_noted parameter_noted
    type_name_noted
notes-TypeName x = eq.fold-TypeName noting x
