-- What a fold says of each kind of tree, in terms of what it says of the trees in it.
use Rattle.std.proofs.Common.{◌≡◌, ℕ, ℤ, List, Option, Some, None, Bool, sym, ap, ◌∙◌}
use Rattle.std.specs.Prelude.{map, option_map}
use Rattle.c_language.specs.declared.token.IntegerConstant.{IntegerConstant}
use Rattle.c_language.specs.declared.expr.UnaryOperator.{UnaryOperator}
use Rattle.c_language.specs.declared.expr.PostfixOperator.{PostfixOperator}
use Rattle.c_language.specs.declared.expr.BinaryOperator.{BinaryOperator}
use Rattle.c_language.specs.declared.expr.StorageClass.{StorageClass}
use Rattle.c_language.specs.declared.expr.Qualifier.{Qualifier}
use Rattle.c_language.specs.declared.expr.TypeWord.{TypeWord}
use Rattle.c_language.specs.declared.expr.AggregateKind.{AggregateKind}
use Rattle.c_language.specs.declared.expr.ArrayWord.{ArrayWord}
use Rattle.c_language.specs.declared.expr.TagName.{TagName}
use Rattle.c_language.specs.declared.expr.Declarator.{Declarator, fold-roll-Declarator}
use Rattle.c_language.specs.declared.expr.Expr.{Expr, fold-roll-Expr}
use Rattle.c_language.specs.declared.expr.Field.{Field, fold-roll-Field}
use Rattle.c_language.specs.declared.expr.Specifier.{Specifier, fold-roll-Specifier}
use Rattle.c_language.specs.declared.expr.Enumerator.{Enumerator, fold-roll-Enumerator}
use Rattle.c_language.specs.declared.expr.MemberDeclaration.{MemberDeclaration, fold-roll-MemberDeclaration}
use Rattle.c_language.specs.declared.expr.Parameter.{Parameter, fold-roll-Parameter}
use Rattle.c_language.specs.declared.expr.TypeName.{TypeName, fold-roll-TypeName}
use Rattle.c_language.specs.declared.expr.Expr.TheVariants as expr
use Rattle.c_language.specs.declared.expr.Specifier.TheVariants as specifier
use Rattle.c_language.specs.declared.expr.Field.TheVariants as field
use Rattle.c_language.specs.declared.expr.Declarator.TheVariants as declarator
use Rattle.c_language.specs.declared.expr.Declarator.TheOpen as open_
use Rattle.c_language.specs.declared.expr.Expr.TheVariants.{
  rolls-Integer,
  rolls-Floating,
  rolls-Character,
  rolls-StringLiteral,
  rolls-FunctionName,
  rolls-Identifier,
  rolls-Parenthesized,
  rolls-Subscript,
  rolls-Call,
  rolls-Member,
  rolls-Arrow,
  rolls-Postfix,
  rolls-Unary,
  rolls-SizeofExpr,
  rolls-SizeofType,
  rolls-Cast,
  rolls-Binary,
  rolls-Conditional,
  rolls-Assign,
  rolls-Comma,
}
use Rattle.c_language.specs.declared.expr.Specifier.TheVariants.{
  rolls-Storage,
  rolls-Qualifier,
  rolls-Inline,
  rolls-Word,
  rolls-Typedef,
  rolls-Tag,
  rolls-Aggregate,
  rolls-EnumTag,
  rolls-Enumeration,
}
use Rattle.c_language.specs.declared.expr.Field.TheVariants.{rolls-Plain, rolls-Bits}
use Rattle.c_language.specs.declared.expr.Declarator.TheVariants.{
  rolls-Name,
  rolls-Omitted,
  rolls-Grouped,
  rolls-Pointer,
  rolls-Array,
  rolls-Function,
}
use Rattle.c_language.specs.Folds.{
  Carrier,
  Algebra,
  fold_declarator,
  fold_expr,
  fold_field,
  fold_specifier,
  fold_enumerator,
  fold_member,
  fold_parameter,
  fold_type_name,
}

-- a name as contracts see it
abbrev pub Name : Type 0
Name = List ℕ

-- ---- expressions

pub fold-Integer : {c : Carrier} (a : Algebra c) (at : ℕ) (constant : IntegerConstant) → fold_expr a (expr.Integer at
    constant) ≡ a.expr (open_.Integer at constant)
unfolding fold_declarator fold_expr fold_field fold_specifier fold_enumerator fold_member fold_parameter
    fold_type_name
fold-Integer {c = c} a at constant =
    ap (fold_expr a) (sym (rolls-Integer at constant))
    ∙ fold-roll-Expr c.declarator c.expr c.field c.specifier c.enumerator c.member c.parameter c.type_name
    a.declarator a.expr a.field a.specifier a.enumerator a.member a.parameter a.type_name (open_.Integer at
    constant)

pub fold-Floating : {c : Carrier} (a : Algebra c) (at : ℕ) → fold_expr a (expr.Floating at) ≡ a.expr (open_.Floating
    at)
unfolding fold_declarator fold_expr fold_field fold_specifier fold_enumerator fold_member fold_parameter
    fold_type_name
fold-Floating {c = c} a at =
    ap (fold_expr a) (sym (rolls-Floating at))
    ∙ fold-roll-Expr c.declarator c.expr c.field c.specifier c.enumerator c.member c.parameter c.type_name
    a.declarator a.expr a.field a.specifier a.enumerator a.member a.parameter a.type_name (open_.Floating at)

pub fold-Character : {c : Carrier} (a : Algebra c) (at : ℕ) (value : ℤ) → fold_expr a (expr.Character at value) ≡
    a.expr (open_.Character at value)
unfolding fold_declarator fold_expr fold_field fold_specifier fold_enumerator fold_member fold_parameter
    fold_type_name
fold-Character {c = c} a at value =
    ap (fold_expr a) (sym (rolls-Character at value))
    ∙ fold-roll-Expr c.declarator c.expr c.field c.specifier c.enumerator c.member c.parameter c.type_name
    a.declarator a.expr a.field a.specifier a.enumerator a.member a.parameter a.type_name (open_.Character at value)

pub fold-StringLiteral : {c : Carrier} (a : Algebra c) (at : ℕ) (pieces : List (List ℕ)) → fold_expr a
    (expr.StringLiteral at pieces) ≡ a.expr (open_.StringLiteral at pieces)
unfolding fold_declarator fold_expr fold_field fold_specifier fold_enumerator fold_member fold_parameter
    fold_type_name
fold-StringLiteral {c = c} a at pieces =
    ap (fold_expr a) (sym (rolls-StringLiteral at pieces))
    ∙ fold-roll-Expr c.declarator c.expr c.field c.specifier c.enumerator c.member c.parameter c.type_name
    a.declarator a.expr a.field a.specifier a.enumerator a.member a.parameter a.type_name (open_.StringLiteral at
    pieces)

pub fold-FunctionName : {c : Carrier} (a : Algebra c) (at : ℕ) → fold_expr a (expr.FunctionName at) ≡ a.expr
    (open_.FunctionName at)
unfolding fold_declarator fold_expr fold_field fold_specifier fold_enumerator fold_member fold_parameter
    fold_type_name
fold-FunctionName {c = c} a at =
    ap (fold_expr a) (sym (rolls-FunctionName at))
    ∙ fold-roll-Expr c.declarator c.expr c.field c.specifier c.enumerator c.member c.parameter c.type_name
    a.declarator a.expr a.field a.specifier a.enumerator a.member a.parameter a.type_name (open_.FunctionName at)

pub fold-Identifier : {c : Carrier} (a : Algebra c) (at : ℕ) (name : Name) → fold_expr a (expr.Identifier at name) ≡
    a.expr (open_.Identifier at name)
unfolding fold_declarator fold_expr fold_field fold_specifier fold_enumerator fold_member fold_parameter
    fold_type_name
fold-Identifier {c = c} a at name =
    ap (fold_expr a) (sym (rolls-Identifier at name))
    ∙ fold-roll-Expr c.declarator c.expr c.field c.specifier c.enumerator c.member c.parameter c.type_name
    a.declarator a.expr a.field a.specifier a.enumerator a.member a.parameter a.type_name (open_.Identifier at name)

pub fold-Parenthesized : {c : Carrier} (a : Algebra c) (at : ℕ) (inner : Expr) → fold_expr a (expr.Parenthesized at
    inner) ≡ a.expr (open_.Parenthesized at (fold_expr a inner))
unfolding fold_declarator fold_expr fold_field fold_specifier fold_enumerator fold_member fold_parameter
    fold_type_name
fold-Parenthesized {c = c} a at inner =
    ap (fold_expr a) (sym (rolls-Parenthesized at inner))
    ∙ fold-roll-Expr c.declarator c.expr c.field c.specifier c.enumerator c.member c.parameter c.type_name
    a.declarator a.expr a.field a.specifier a.enumerator a.member a.parameter a.type_name (open_.Parenthesized at
    inner)

pub fold-Subscript : {c : Carrier} (a : Algebra c) (at : ℕ) (array : Expr) (index : Expr) → fold_expr a
    (expr.Subscript at array index) ≡ a.expr (open_.Subscript at (fold_expr a array) (fold_expr a index))
unfolding fold_declarator fold_expr fold_field fold_specifier fold_enumerator fold_member fold_parameter
    fold_type_name
fold-Subscript {c = c} a at array index =
    ap (fold_expr a) (sym (rolls-Subscript at array index))
    ∙ fold-roll-Expr c.declarator c.expr c.field c.specifier c.enumerator c.member c.parameter c.type_name
    a.declarator a.expr a.field a.specifier a.enumerator a.member a.parameter a.type_name (open_.Subscript at array
    index)

pub fold-Call : {c : Carrier} (a : Algebra c) (at : ℕ) (callee : Expr) (arguments : List Expr) → fold_expr a
    (expr.Call at callee arguments) ≡ a.expr (open_.Call at (fold_expr a callee) (map (fold_expr a) arguments))
unfolding fold_declarator fold_expr fold_field fold_specifier fold_enumerator fold_member fold_parameter
    fold_type_name
fold-Call {c = c} a at callee arguments =
    ap (fold_expr a) (sym (rolls-Call at callee arguments))
    ∙ fold-roll-Expr c.declarator c.expr c.field c.specifier c.enumerator c.member c.parameter c.type_name
    a.declarator a.expr a.field a.specifier a.enumerator a.member a.parameter a.type_name (open_.Call at callee
    arguments)

pub fold-Member : {c : Carrier} (a : Algebra c) (at : ℕ) (object : Expr) (member : Name) → fold_expr a (expr.Member
    at object member) ≡ a.expr (open_.Member at (fold_expr a object) member)
unfolding fold_declarator fold_expr fold_field fold_specifier fold_enumerator fold_member fold_parameter
    fold_type_name
fold-Member {c = c} a at object member =
    ap (fold_expr a) (sym (rolls-Member at object member))
    ∙ fold-roll-Expr c.declarator c.expr c.field c.specifier c.enumerator c.member c.parameter c.type_name
    a.declarator a.expr a.field a.specifier a.enumerator a.member a.parameter a.type_name (open_.Member at object
    member)

pub fold-Arrow : {c : Carrier} (a : Algebra c) (at : ℕ) (pointer : Expr) (member : Name) → fold_expr a (expr.Arrow at
    pointer member) ≡ a.expr (open_.Arrow at (fold_expr a pointer) member)
unfolding fold_declarator fold_expr fold_field fold_specifier fold_enumerator fold_member fold_parameter
    fold_type_name
fold-Arrow {c = c} a at pointer member =
    ap (fold_expr a) (sym (rolls-Arrow at pointer member))
    ∙ fold-roll-Expr c.declarator c.expr c.field c.specifier c.enumerator c.member c.parameter c.type_name
    a.declarator a.expr a.field a.specifier a.enumerator a.member a.parameter a.type_name (open_.Arrow at pointer
    member)

pub fold-Postfix : {c : Carrier} (a : Algebra c) (at : ℕ) (operator : PostfixOperator) (operand : Expr) → fold_expr a
    (expr.Postfix at operator operand) ≡ a.expr (open_.Postfix at operator (fold_expr a operand))
unfolding fold_declarator fold_expr fold_field fold_specifier fold_enumerator fold_member fold_parameter
    fold_type_name
fold-Postfix {c = c} a at operator operand =
    ap (fold_expr a) (sym (rolls-Postfix at operator operand))
    ∙ fold-roll-Expr c.declarator c.expr c.field c.specifier c.enumerator c.member c.parameter c.type_name
    a.declarator a.expr a.field a.specifier a.enumerator a.member a.parameter a.type_name (open_.Postfix at
    operator operand)

pub fold-Unary : {c : Carrier} (a : Algebra c) (at : ℕ) (operator : UnaryOperator) (operand : Expr) → fold_expr a
    (expr.Unary at operator operand) ≡ a.expr (open_.Unary at operator (fold_expr a operand))
unfolding fold_declarator fold_expr fold_field fold_specifier fold_enumerator fold_member fold_parameter
    fold_type_name
fold-Unary {c = c} a at operator operand =
    ap (fold_expr a) (sym (rolls-Unary at operator operand))
    ∙ fold-roll-Expr c.declarator c.expr c.field c.specifier c.enumerator c.member c.parameter c.type_name
    a.declarator a.expr a.field a.specifier a.enumerator a.member a.parameter a.type_name (open_.Unary at operator
    operand)

pub fold-SizeofExpr : {c : Carrier} (a : Algebra c) (at : ℕ) (operand : Expr) → fold_expr a (expr.SizeofExpr at
    operand) ≡ a.expr (open_.SizeofExpr at (fold_expr a operand))
unfolding fold_declarator fold_expr fold_field fold_specifier fold_enumerator fold_member fold_parameter
    fold_type_name
fold-SizeofExpr {c = c} a at operand =
    ap (fold_expr a) (sym (rolls-SizeofExpr at operand))
    ∙ fold-roll-Expr c.declarator c.expr c.field c.specifier c.enumerator c.member c.parameter c.type_name
    a.declarator a.expr a.field a.specifier a.enumerator a.member a.parameter a.type_name (open_.SizeofExpr at
    operand)

pub fold-SizeofType : {c : Carrier} (a : Algebra c) (at : ℕ) (type_name : TypeName) → fold_expr a (expr.SizeofType at
    type_name) ≡ a.expr (open_.SizeofType at (fold_type_name a type_name))
unfolding fold_declarator fold_expr fold_field fold_specifier fold_enumerator fold_member fold_parameter
    fold_type_name
fold-SizeofType {c = c} a at type_name =
    ap (fold_expr a) (sym (rolls-SizeofType at type_name))
    ∙ fold-roll-Expr c.declarator c.expr c.field c.specifier c.enumerator c.member c.parameter c.type_name
    a.declarator a.expr a.field a.specifier a.enumerator a.member a.parameter a.type_name (open_.SizeofType at
    type_name)

pub fold-Cast : {c : Carrier} (a : Algebra c) (at : ℕ) (type_name : TypeName) (operand : Expr) → fold_expr a
    (expr.Cast at type_name operand) ≡ a.expr (open_.Cast at (fold_type_name a type_name) (fold_expr a operand))
unfolding fold_declarator fold_expr fold_field fold_specifier fold_enumerator fold_member fold_parameter
    fold_type_name
fold-Cast {c = c} a at type_name operand =
    ap (fold_expr a) (sym (rolls-Cast at type_name operand))
    ∙ fold-roll-Expr c.declarator c.expr c.field c.specifier c.enumerator c.member c.parameter c.type_name
    a.declarator a.expr a.field a.specifier a.enumerator a.member a.parameter a.type_name (open_.Cast at type_name
    operand)

pub fold-Binary : {c : Carrier} (a : Algebra c) (at : ℕ) (operator : BinaryOperator) (left : Expr) (right : Expr) →
    fold_expr a (expr.Binary at operator left right) ≡ a.expr (open_.Binary at operator (fold_expr a left) (fold_expr
    a right))
unfolding fold_declarator fold_expr fold_field fold_specifier fold_enumerator fold_member fold_parameter
    fold_type_name
fold-Binary {c = c} a at operator left right =
    ap (fold_expr a) (sym (rolls-Binary at operator left right))
    ∙ fold-roll-Expr c.declarator c.expr c.field c.specifier c.enumerator c.member c.parameter c.type_name
    a.declarator a.expr a.field a.specifier a.enumerator a.member a.parameter a.type_name (open_.Binary at operator
    left right)

pub fold-Conditional : {c : Carrier} (a : Algebra c) (at : ℕ) (condition : Expr) (positive : Expr) (negative : Expr)
    → fold_expr a (expr.Conditional at condition positive negative) ≡ a.expr (open_.Conditional at (fold_expr a
    condition) (fold_expr a positive) (fold_expr a negative))
unfolding fold_declarator fold_expr fold_field fold_specifier fold_enumerator fold_member fold_parameter
    fold_type_name
fold-Conditional {c = c} a at condition positive negative =
    ap (fold_expr a) (sym (rolls-Conditional at condition positive negative))
    ∙ fold-roll-Expr c.declarator c.expr c.field c.specifier c.enumerator c.member c.parameter c.type_name
    a.declarator a.expr a.field a.specifier a.enumerator a.member a.parameter a.type_name (open_.Conditional at
    condition positive negative)

pub fold-Assign : {c : Carrier} (a : Algebra c) (at : ℕ) (operator : Option BinaryOperator) (target : Expr) (value :
    Expr) → fold_expr a (expr.Assign at operator target value) ≡ a.expr (open_.Assign at operator (fold_expr a
    target) (fold_expr a value))
unfolding fold_declarator fold_expr fold_field fold_specifier fold_enumerator fold_member fold_parameter
    fold_type_name
fold-Assign {c = c} a at operator target value =
    ap (fold_expr a) (sym (rolls-Assign at operator target value))
    ∙ fold-roll-Expr c.declarator c.expr c.field c.specifier c.enumerator c.member c.parameter c.type_name
    a.declarator a.expr a.field a.specifier a.enumerator a.member a.parameter a.type_name (open_.Assign at operator
    target value)

pub fold-Comma : {c : Carrier} (a : Algebra c) (at : ℕ) (left : Expr) (right : Expr) → fold_expr a (expr.Comma at
    left right) ≡ a.expr (open_.Comma at (fold_expr a left) (fold_expr a right))
unfolding fold_declarator fold_expr fold_field fold_specifier fold_enumerator fold_member fold_parameter
    fold_type_name
fold-Comma {c = c} a at left right =
    ap (fold_expr a) (sym (rolls-Comma at left right))
    ∙ fold-roll-Expr c.declarator c.expr c.field c.specifier c.enumerator c.member c.parameter c.type_name
    a.declarator a.expr a.field a.specifier a.enumerator a.member a.parameter a.type_name (open_.Comma at left
    right)

-- ---- declarators

pub fold-Name : {c : Carrier} (a : Algebra c) (at : ℕ) (name : Name) → fold_declarator a (declarator.Name at name) ≡
    a.declarator (open_.Name at name)
unfolding fold_declarator fold_expr fold_field fold_specifier fold_enumerator fold_member fold_parameter
    fold_type_name
fold-Name {c = c} a at name =
    ap (fold_declarator a) (sym (rolls-Name at name))
    ∙ fold-roll-Declarator c.declarator c.expr c.field c.specifier c.enumerator c.member c.parameter c.type_name
    a.declarator a.expr a.field a.specifier a.enumerator a.member a.parameter a.type_name (open_.Name at name)

pub fold-Omitted : {c : Carrier} (a : Algebra c) → fold_declarator a declarator.Omitted ≡ a.declarator open_.Omitted
unfolding fold_declarator fold_expr fold_field fold_specifier fold_enumerator fold_member fold_parameter
    fold_type_name
fold-Omitted {c = c} a =
    ap (fold_declarator a) (sym rolls-Omitted)
    ∙ fold-roll-Declarator c.declarator c.expr c.field c.specifier c.enumerator c.member c.parameter c.type_name
    a.declarator a.expr a.field a.specifier a.enumerator a.member a.parameter a.type_name open_.Omitted

pub fold-Grouped : {c : Carrier} (a : Algebra c) (at : ℕ) (inner : Declarator) → fold_declarator a
    (declarator.Grouped at inner) ≡ a.declarator (open_.Grouped at (fold_declarator a inner))
unfolding fold_declarator fold_expr fold_field fold_specifier fold_enumerator fold_member fold_parameter
    fold_type_name
fold-Grouped {c = c} a at inner =
    ap (fold_declarator a) (sym (rolls-Grouped at inner))
    ∙ fold-roll-Declarator c.declarator c.expr c.field c.specifier c.enumerator c.member c.parameter c.type_name
    a.declarator a.expr a.field a.specifier a.enumerator a.member a.parameter a.type_name (open_.Grouped at inner)

pub fold-Pointer : {c : Carrier} (a : Algebra c) (at : ℕ) (qualifiers : List Qualifier) (inner : Declarator) →
    fold_declarator a (declarator.Pointer at qualifiers inner) ≡ a.declarator (open_.Pointer at qualifiers
    (fold_declarator a inner))
unfolding fold_declarator fold_expr fold_field fold_specifier fold_enumerator fold_member fold_parameter
    fold_type_name
fold-Pointer {c = c} a at qualifiers inner =
    ap (fold_declarator a) (sym (rolls-Pointer at qualifiers inner))
    ∙ fold-roll-Declarator c.declarator c.expr c.field c.specifier c.enumerator c.member c.parameter c.type_name
    a.declarator a.expr a.field a.specifier a.enumerator a.member a.parameter a.type_name (open_.Pointer at
    qualifiers inner)

pub fold-Array : {c : Carrier} (a : Algebra c) (at : ℕ) (inner : Declarator) (words : List ArrayWord) (length' :
    Option Expr) → fold_declarator a (declarator.Array at inner words length') ≡ a.declarator (open_.Array at
    (fold_declarator a inner) words (option_map (fold_expr a) length'))
unfolding fold_declarator fold_expr fold_field fold_specifier fold_enumerator fold_member fold_parameter
    fold_type_name
fold-Array {c = c} a at inner words None =
    ap (fold_declarator a) (sym (rolls-Array at inner words None))
    ∙ fold-roll-Declarator c.declarator c.expr c.field c.specifier c.enumerator c.member c.parameter c.type_name
    a.declarator a.expr a.field a.specifier a.enumerator a.member a.parameter a.type_name (open_.Array at inner
    words None)
fold-Array {c = c} a at inner words (Some it) =
    ap (fold_declarator a) (sym (rolls-Array at inner words (Some it)))
    ∙ fold-roll-Declarator c.declarator c.expr c.field c.specifier c.enumerator c.member c.parameter c.type_name
    a.declarator a.expr a.field a.specifier a.enumerator a.member a.parameter a.type_name (open_.Array at inner
    words (Some it))

pub fold-Function : {c : Carrier} (a : Algebra c) (at : ℕ) (inner : Declarator) (parameters : List Parameter)
    (variadic : Bool) → fold_declarator a (declarator.Function at inner parameters variadic) ≡ a.declarator
    (open_.Function at (fold_declarator a inner) (map (fold_parameter a) parameters) variadic)
unfolding fold_declarator fold_expr fold_field fold_specifier fold_enumerator fold_member fold_parameter
    fold_type_name
fold-Function {c = c} a at inner parameters variadic =
    ap (fold_declarator a) (sym (rolls-Function at inner parameters variadic))
    ∙ fold-roll-Declarator c.declarator c.expr c.field c.specifier c.enumerator c.member c.parameter c.type_name
    a.declarator a.expr a.field a.specifier a.enumerator a.member a.parameter a.type_name (open_.Function at inner
    parameters variadic)

-- ---- specifiers

pub fold-Storage : {c : Carrier} (a : Algebra c) (at : ℕ) (class : StorageClass) → fold_specifier a
    (specifier.Storage at class) ≡ a.specifier (open_.Storage at class)
unfolding fold_declarator fold_expr fold_field fold_specifier fold_enumerator fold_member fold_parameter
    fold_type_name
fold-Storage {c = c} a at class =
    ap (fold_specifier a) (sym (rolls-Storage at class))
    ∙ fold-roll-Specifier c.declarator c.expr c.field c.specifier c.enumerator c.member c.parameter c.type_name
    a.declarator a.expr a.field a.specifier a.enumerator a.member a.parameter a.type_name (open_.Storage at class)

pub fold-Qualifier : {c : Carrier} (a : Algebra c) (at : ℕ) (qualifier : Qualifier) → fold_specifier a
    (specifier.Qualifier at qualifier) ≡ a.specifier (open_.Qualifier at qualifier)
unfolding fold_declarator fold_expr fold_field fold_specifier fold_enumerator fold_member fold_parameter
    fold_type_name
fold-Qualifier {c = c} a at qualifier =
    ap (fold_specifier a) (sym (rolls-Qualifier at qualifier))
    ∙ fold-roll-Specifier c.declarator c.expr c.field c.specifier c.enumerator c.member c.parameter c.type_name
    a.declarator a.expr a.field a.specifier a.enumerator a.member a.parameter a.type_name (open_.Qualifier at
    qualifier)

pub fold-Inline : {c : Carrier} (a : Algebra c) (at : ℕ) → fold_specifier a (specifier.Inline at) ≡ a.specifier
    (open_.Inline at)
unfolding fold_declarator fold_expr fold_field fold_specifier fold_enumerator fold_member fold_parameter
    fold_type_name
fold-Inline {c = c} a at =
    ap (fold_specifier a) (sym (rolls-Inline at))
    ∙ fold-roll-Specifier c.declarator c.expr c.field c.specifier c.enumerator c.member c.parameter c.type_name
    a.declarator a.expr a.field a.specifier a.enumerator a.member a.parameter a.type_name (open_.Inline at)

pub fold-Word : {c : Carrier} (a : Algebra c) (at : ℕ) (word : TypeWord) → fold_specifier a (specifier.Word at word)
    ≡ a.specifier (open_.Word at word)
unfolding fold_declarator fold_expr fold_field fold_specifier fold_enumerator fold_member fold_parameter
    fold_type_name
fold-Word {c = c} a at word =
    ap (fold_specifier a) (sym (rolls-Word at word))
    ∙ fold-roll-Specifier c.declarator c.expr c.field c.specifier c.enumerator c.member c.parameter c.type_name
    a.declarator a.expr a.field a.specifier a.enumerator a.member a.parameter a.type_name (open_.Word at word)

pub fold-Typedef : {c : Carrier} (a : Algebra c) (at : ℕ) (name : Name) → fold_specifier a (specifier.Typedef at
    name) ≡ a.specifier (open_.Typedef at name)
unfolding fold_declarator fold_expr fold_field fold_specifier fold_enumerator fold_member fold_parameter
    fold_type_name
fold-Typedef {c = c} a at name =
    ap (fold_specifier a) (sym (rolls-Typedef at name))
    ∙ fold-roll-Specifier c.declarator c.expr c.field c.specifier c.enumerator c.member c.parameter c.type_name
    a.declarator a.expr a.field a.specifier a.enumerator a.member a.parameter a.type_name (open_.Typedef at name)

pub fold-Tag : {c : Carrier} (a : Algebra c) (at : ℕ) (kind : AggregateKind) (tag : TagName) → fold_specifier a
    (specifier.Tag at kind tag) ≡ a.specifier (open_.Tag at kind tag)
unfolding fold_declarator fold_expr fold_field fold_specifier fold_enumerator fold_member fold_parameter
    fold_type_name
fold-Tag {c = c} a at kind tag =
    ap (fold_specifier a) (sym (rolls-Tag at kind tag))
    ∙ fold-roll-Specifier c.declarator c.expr c.field c.specifier c.enumerator c.member c.parameter c.type_name
    a.declarator a.expr a.field a.specifier a.enumerator a.member a.parameter a.type_name (open_.Tag at kind tag)

pub fold-Aggregate : {c : Carrier} (a : Algebra c) (at : ℕ) (kind : AggregateKind) (tag : Option TagName) (members :
    List MemberDeclaration) → fold_specifier a (specifier.Aggregate at kind tag members) ≡ a.specifier
    (open_.Aggregate at kind tag (map (fold_member a) members))
unfolding fold_declarator fold_expr fold_field fold_specifier fold_enumerator fold_member fold_parameter
    fold_type_name
fold-Aggregate {c = c} a at kind tag members =
    ap (fold_specifier a) (sym (rolls-Aggregate at kind tag members))
    ∙ fold-roll-Specifier c.declarator c.expr c.field c.specifier c.enumerator c.member c.parameter c.type_name
    a.declarator a.expr a.field a.specifier a.enumerator a.member a.parameter a.type_name (open_.Aggregate at kind
    tag members)

pub fold-EnumTag : {c : Carrier} (a : Algebra c) (at : ℕ) (tag : TagName) → fold_specifier a (specifier.EnumTag at
    tag) ≡ a.specifier (open_.EnumTag at tag)
unfolding fold_declarator fold_expr fold_field fold_specifier fold_enumerator fold_member fold_parameter
    fold_type_name
fold-EnumTag {c = c} a at tag =
    ap (fold_specifier a) (sym (rolls-EnumTag at tag))
    ∙ fold-roll-Specifier c.declarator c.expr c.field c.specifier c.enumerator c.member c.parameter c.type_name
    a.declarator a.expr a.field a.specifier a.enumerator a.member a.parameter a.type_name (open_.EnumTag at tag)

pub fold-Enumeration : {c : Carrier} (a : Algebra c) (at : ℕ) (tag : Option TagName) (enumerators : List Enumerator)
    (trailing : Bool) → fold_specifier a (specifier.Enumeration at tag enumerators trailing) ≡ a.specifier
    (open_.Enumeration at tag (map (fold_enumerator a) enumerators) trailing)
unfolding fold_declarator fold_expr fold_field fold_specifier fold_enumerator fold_member fold_parameter
    fold_type_name
fold-Enumeration {c = c} a at tag enumerators trailing =
    ap (fold_specifier a) (sym (rolls-Enumeration at tag enumerators trailing))
    ∙ fold-roll-Specifier c.declarator c.expr c.field c.specifier c.enumerator c.member c.parameter c.type_name
    a.declarator a.expr a.field a.specifier a.enumerator a.member a.parameter a.type_name (open_.Enumeration at tag
    enumerators trailing)

-- ---- fields

pub fold-Plain : {c : Carrier} (a : Algebra c) (declarator : Declarator) → fold_field a (field.Plain declarator) ≡
    a.field (open_.Plain (fold_declarator a declarator))
unfolding fold_declarator fold_expr fold_field fold_specifier fold_enumerator fold_member fold_parameter
    fold_type_name
fold-Plain {c = c} a declarator =
    ap (fold_field a) (sym (rolls-Plain declarator))
    ∙ fold-roll-Field c.declarator c.expr c.field c.specifier c.enumerator c.member c.parameter c.type_name
    a.declarator a.expr a.field a.specifier a.enumerator a.member a.parameter a.type_name (open_.Plain declarator)

pub fold-Bits : {c : Carrier} (a : Algebra c) (at : ℕ) (declarator : Option Declarator) (width : Expr) → fold_field a
    (field.Bits at declarator width) ≡ a.field (open_.Bits at (option_map (fold_declarator a) declarator) (fold_expr
    a width))
unfolding fold_declarator fold_expr fold_field fold_specifier fold_enumerator fold_member fold_parameter
    fold_type_name
fold-Bits {c = c} a at None width =
    ap (fold_field a) (sym (rolls-Bits at None width))
    ∙ fold-roll-Field c.declarator c.expr c.field c.specifier c.enumerator c.member c.parameter c.type_name
    a.declarator a.expr a.field a.specifier a.enumerator a.member a.parameter a.type_name (open_.Bits at None width)
fold-Bits {c = c} a at (Some it) width =
    ap (fold_field a) (sym (rolls-Bits at (Some it) width))
    ∙ fold-roll-Field c.declarator c.expr c.field c.specifier c.enumerator c.member c.parameter c.type_name
    a.declarator a.expr a.field a.specifier a.enumerator a.member a.parameter a.type_name (open_.Bits at (Some it)
    width)

-- ---- enumerators, member declarations, parameters and type names

enumerator-from : {c : Carrier} (a : Algebra c) (at : ℕ) (name : Name) (value : Option Expr) →
    fold_enumerator a (record { at = at; name = name; value = value }) ≡
    a.enumerator (record { at = at; name = name; value = option_map (fold_expr a) value })
unfolding fold_declarator fold_expr fold_field fold_specifier fold_enumerator fold_member fold_parameter
    fold_type_name
enumerator-from {c = c} a at name None =
    fold-roll-Enumerator c.declarator c.expr c.field c.specifier c.enumerator c.member c.parameter c.type_name
    a.declarator a.expr a.field a.specifier a.enumerator a.member a.parameter a.type_name (record {
      at = at;
      name =
          name;
      value = None;
    })
enumerator-from {c = c} a at name (Some it) =
    fold-roll-Enumerator c.declarator c.expr c.field c.specifier c.enumerator c.member c.parameter c.type_name
    a.declarator a.expr a.field a.specifier a.enumerator a.member a.parameter a.type_name (record {
      at = at;
      name =
          name;
      value = Some it;
    })

pub fold-Enumerator : {c : Carrier} (a : Algebra c) (x : Enumerator) →
    fold_enumerator a x ≡ a.enumerator (record { at = x.at; name = x.name; value = option_map (fold_expr a) x.value })
fold-Enumerator a x = enumerator-from a x.at x.name x.value

pub fold-MemberDeclaration : {c : Carrier} (a : Algebra c) (x : MemberDeclaration) → fold_member a x ≡
    a.member (record { specifiers = (map (fold_specifier a) x.specifiers); fields = (map (fold_field a) x.fields) })
unfolding fold_declarator fold_expr fold_field fold_specifier fold_enumerator fold_member fold_parameter
    fold_type_name
fold-MemberDeclaration {c = c} a x =
    fold-roll-MemberDeclaration c.declarator c.expr c.field c.specifier c.enumerator c.member c.parameter c.type_name
    a.declarator a.expr a.field a.specifier a.enumerator a.member a.parameter a.type_name (record {
      specifiers =
          x.specifiers;
      fields = x.fields;
    })

pub fold-Parameter : {c : Carrier} (a : Algebra c) (x : Parameter) → fold_parameter a x ≡
    a.parameter (record {
      specifiers = (map (fold_specifier a) x.specifiers);
      declarator = (fold_declarator a
          x.declarator);
    })
unfolding fold_declarator fold_expr fold_field fold_specifier fold_enumerator fold_member fold_parameter
    fold_type_name
fold-Parameter {c = c} a x =
    fold-roll-Parameter c.declarator c.expr c.field c.specifier c.enumerator c.member c.parameter c.type_name
    a.declarator a.expr a.field a.specifier a.enumerator a.member a.parameter a.type_name (record {
      specifiers =
          x.specifiers;
      declarator = x.declarator;
    })

pub fold-TypeName : {c : Carrier} (a : Algebra c) (x : TypeName) → fold_type_name a x ≡
    a.type_name (record {
      specifiers = (map (fold_specifier a) x.specifiers);
      declarator = (fold_declarator a
          x.declarator);
    })
unfolding fold_declarator fold_expr fold_field fold_specifier fold_enumerator fold_member fold_parameter
    fold_type_name
fold-TypeName {c = c} a x =
    fold-roll-TypeName c.declarator c.expr c.field c.specifier c.enumerator c.member c.parameter c.type_name
    a.declarator a.expr a.field a.specifier a.enumerator a.member a.parameter a.type_name (record {
      specifiers =
          x.specifiers;
      declarator = x.declarator;
    })
