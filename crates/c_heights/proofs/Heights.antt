-- The height of each kind of node, in terms of the heights of the nodes in it.
use Rattle.std.proofs.Common.{◌≡◌, ℕ, ℤ, suc, List, Option, Bool, ap, ◌∙◌}
use Rattle.std.specs.Prelude.{map, max, option_map}
use Rattle.c_language.specs.declared.token.IntegerConstant.{IntegerConstant}
use Rattle.c_language.specs.declared.expr.UnaryOperator.{UnaryOperator}
use Rattle.c_language.specs.declared.expr.PostfixOperator.{PostfixOperator}
use Rattle.c_language.specs.declared.expr.BinaryOperator.{BinaryOperator}
use Rattle.c_language.specs.declared.expr.StorageClass.{StorageClass}
use Rattle.c_language.specs.declared.expr.Qualifier.{Qualifier}
use Rattle.c_language.specs.declared.expr.TypeWord.{TypeWord}
use Rattle.c_language.specs.declared.expr.AggregateKind.{AggregateKind}
use Rattle.c_language.specs.declared.expr.ArrayWord.{ArrayWord}
use Rattle.c_language.specs.declared.expr.TagName.{TagName}
use Rattle.c_language.specs.declared.expr.Expr.{Expr}
use Rattle.c_language.specs.declared.expr.Declarator.{Declarator}
use Rattle.c_language.specs.declared.expr.Specifier.{Specifier}
use Rattle.c_language.specs.declared.expr.Field.{Field}
use Rattle.c_language.specs.declared.expr.Enumerator.{Enumerator}
use Rattle.c_language.specs.declared.expr.MemberDeclaration.{MemberDeclaration}
use Rattle.c_language.specs.declared.expr.Parameter.{Parameter}
use Rattle.c_language.specs.declared.expr.TypeName.{TypeName}
use Rattle.c_language.specs.declared.expr.Expr.TheVariants as expr
use Rattle.c_language.specs.declared.expr.Declarator.TheVariants as declarator
use Rattle.c_language.specs.declared.expr.Specifier.TheVariants as specifier
use Rattle.c_language.specs.declared.expr.Field.TheVariants as field
use Rattle.c_grammar.specs.Grammar.{
  shape,
  form,
  specifier_of,
  field_of,
  enumerator_of,
  member_of,
  parameter_of,
  type_name_of,
  highest_shape,
  highest,
  highest_specifier,
  height_of,
  form_height,
}
use Rattle.c_grammar.proofs.Equations as equations

-- ---- expressions

pub shape-Integer : {x : Expr} (at : ℕ) (constant : IntegerConstant) → x ≡ expr.Integer at constant →
    (shape x).height ≡ 1
shape-Integer at constant is = ap (λ y. y.height) (ap shape is ∙ equations.shape-Integer at constant)

pub shape-Floating : {x : Expr} (at : ℕ) → x ≡ expr.Floating at → (shape x).height ≡ 1
shape-Floating at is = ap (λ y. y.height) (ap shape is ∙ equations.shape-Floating at)

pub shape-Character : {x : Expr} (at : ℕ) (value : ℤ) → x ≡ expr.Character at value → (shape x).height ≡ 1
shape-Character at value is = ap (λ y. y.height) (ap shape is ∙ equations.shape-Character at value)

pub shape-StringLiteral : {x : Expr} (at : ℕ) (pieces : List (List ℕ)) → x ≡ expr.StringLiteral at pieces →
    (shape x).height ≡ 1
shape-StringLiteral at pieces is = ap (λ y. y.height) (ap shape is ∙ equations.shape-StringLiteral at pieces)

pub shape-FunctionName : {x : Expr} (at : ℕ) → x ≡ expr.FunctionName at → (shape x).height ≡ 1
shape-FunctionName at is = ap (λ y. y.height) (ap shape is ∙ equations.shape-FunctionName at)

pub shape-Identifier : {x : Expr} (at : ℕ) (name : List ℕ) → x ≡ expr.Identifier at name → (shape x).height ≡ 1
shape-Identifier at name is = ap (λ y. y.height) (ap shape is ∙ equations.shape-Identifier at name)

pub shape-Parenthesized : {x : Expr} (at : ℕ) (inner : Expr) → x ≡ expr.Parenthesized at inner → (shape x).height ≡
    suc (shape inner).height
shape-Parenthesized at inner is = ap (λ y. y.height) (ap shape is ∙ equations.shape-Parenthesized at inner)

pub shape-Subscript : {x : Expr} (at : ℕ) (array : Expr) (index : Expr) → x ≡ expr.Subscript at array index →
    (shape x).height ≡ suc (max (shape array).height (shape index).height)
shape-Subscript at array index is = ap (λ y. y.height) (ap shape is ∙ equations.shape-Subscript at array index)

pub shape-Call : {x : Expr} (at : ℕ) (callee : Expr) (arguments : List Expr) → x ≡ expr.Call at callee arguments →
    (shape x).height ≡ suc (max (shape callee).height (highest_shape (map shape arguments)))
shape-Call at callee arguments is = ap (λ y. y.height) (ap shape is ∙ equations.shape-Call at callee arguments)

pub shape-Member : {x : Expr} (at : ℕ) (object : Expr) (member : List ℕ) → x ≡ expr.Member at object member →
    (shape x).height ≡ suc (shape object).height
shape-Member at object member is = ap (λ y. y.height) (ap shape is ∙ equations.shape-Member at object member)

pub shape-Arrow : {x : Expr} (at : ℕ) (pointer : Expr) (member : List ℕ) → x ≡ expr.Arrow at pointer member →
    (shape x).height ≡ suc (shape pointer).height
shape-Arrow at pointer member is = ap (λ y. y.height) (ap shape is ∙ equations.shape-Arrow at pointer member)

pub shape-Postfix : {x : Expr} (at : ℕ) (operator : PostfixOperator) (operand : Expr) → x ≡ expr.Postfix at operator
    operand → (shape x).height ≡ suc (shape operand).height
shape-Postfix at operator operand is = ap (λ y. y.height) (ap shape is ∙ equations.shape-Postfix at operator operand)

pub shape-Unary : {x : Expr} (at : ℕ) (operator : UnaryOperator) (operand : Expr) → x ≡ expr.Unary at operator
    operand → (shape x).height ≡ suc (shape operand).height
shape-Unary at operator operand is = ap (λ y. y.height) (ap shape is ∙ equations.shape-Unary at operator operand)

pub shape-SizeofExpr : {x : Expr} (at : ℕ) (operand : Expr) → x ≡ expr.SizeofExpr at operand → (shape x).height ≡ suc
    (shape operand).height
shape-SizeofExpr at operand is = ap (λ y. y.height) (ap shape is ∙ equations.shape-SizeofExpr at operand)

pub shape-SizeofType : {x : Expr} (at : ℕ) (type_name : TypeName) → x ≡ expr.SizeofType at type_name →
    (shape x).height ≡ suc (type_name_of type_name).height
shape-SizeofType at type_name is = ap (λ y. y.height) (ap shape is ∙ equations.shape-SizeofType at type_name)

pub shape-Cast : {x : Expr} (at : ℕ) (type_name : TypeName) (operand : Expr) → x ≡ expr.Cast at type_name operand →
    (shape x).height ≡ suc (max (type_name_of type_name).height (shape operand).height)
shape-Cast at type_name operand is = ap (λ y. y.height) (ap shape is ∙ equations.shape-Cast at type_name operand)

pub shape-Binary : {x : Expr} (at : ℕ) (operator : BinaryOperator) (left : Expr) (right : Expr) → x ≡ expr.Binary at
    operator left right → (shape x).height ≡ suc (max (shape left).height (shape right).height)
shape-Binary at operator left right is =
    ap (λ y. y.height) (ap shape is ∙ equations.shape-Binary at operator left right)

pub shape-Conditional : {x : Expr} (at : ℕ) (condition : Expr) (positive : Expr) (negative : Expr) →
    x ≡ expr.Conditional at condition positive negative → (shape x).height ≡ suc (max (shape condition).height
    (max (shape positive).height (shape negative).height))
shape-Conditional at condition positive negative is =
    ap (λ y. y.height) (ap shape is ∙ equations.shape-Conditional at condition positive negative)

pub shape-Assign : {x : Expr} (at : ℕ) (operator : Option BinaryOperator) (target : Expr) (value : Expr) →
    x ≡ expr.Assign at operator target value → (shape x).height ≡ suc (max (shape target).height (shape value).height)
shape-Assign at operator target value is =
    ap (λ y. y.height) (ap shape is ∙ equations.shape-Assign at operator target value)

pub shape-Comma : {x : Expr} (at : ℕ) (left : Expr) (right : Expr) → x ≡ expr.Comma at left right → (shape x).height ≡
    suc (max (shape left).height (shape right).height)
shape-Comma at left right is = ap (λ y. y.height) (ap shape is ∙ equations.shape-Comma at left right)

-- ---- declarators

pub form-Name : {x : Declarator} (at : ℕ) (name : List ℕ) → x ≡ declarator.Name at name → (form x).height ≡ 1
form-Name at name is = ap (λ y. y.height) (ap form is ∙ equations.form-Name at name)

pub form-Omitted : {x : Declarator} → x ≡ declarator.Omitted → (form x).height ≡ 1
form-Omitted is = ap (λ y. y.height) (ap form is ∙ equations.form-Omitted)

pub form-Grouped : {x : Declarator} (at : ℕ) (inner : Declarator) → x ≡ declarator.Grouped at inner →
    (form x).height ≡ suc (form inner).height
form-Grouped at inner is = ap (λ y. y.height) (ap form is ∙ equations.form-Grouped at inner)

pub form-Pointer : {x : Declarator} (at : ℕ) (qualifiers : List Qualifier) (inner : Declarator) →
    x ≡ declarator.Pointer at qualifiers inner → (form x).height ≡ suc (form inner).height
form-Pointer at qualifiers inner is = ap (λ y. y.height) (ap form is ∙ equations.form-Pointer at qualifiers inner)

pub form-Function : {x : Declarator} (at : ℕ) (inner : Declarator) (parameters : List Parameter) (variadic : Bool) →
    x ≡ declarator.Function at inner parameters variadic → (form x).height ≡ suc (max (form inner).height
    (highest (map parameter_of parameters)))
form-Function at inner parameters variadic is =
    ap (λ y. y.height) (ap form is ∙ equations.form-Function at inner parameters variadic)

pub form-Array : {x : Declarator} (at : ℕ) (inner : Declarator) (words : List ArrayWord) (length' : Option Expr) →
    x ≡ declarator.Array at inner words length' → (form x).height ≡ suc (max (form inner).height
    (height_of (option_map shape length')))
form-Array at inner words length' is = ap (λ y. y.height) (ap form is ∙ equations.form-Array at inner words length')

-- ---- specifiers

pub specifier-Storage : {x : Specifier} (at : ℕ) (class : StorageClass) → x ≡ specifier.Storage at class →
    (specifier_of x).height ≡ 1
specifier-Storage at class is = ap (λ y. y.height) (ap specifier_of is ∙ equations.specifier-Storage at class)

pub specifier-Qualifier : {x : Specifier} (at : ℕ) (qualifier : Qualifier) → x ≡ specifier.Qualifier at qualifier →
    (specifier_of x).height ≡ 1
specifier-Qualifier at qualifier is =
    ap (λ y. y.height) (ap specifier_of is ∙ equations.specifier-Qualifier at qualifier)

pub specifier-Inline : {x : Specifier} (at : ℕ) → x ≡ specifier.Inline at → (specifier_of x).height ≡ 1
specifier-Inline at is = ap (λ y. y.height) (ap specifier_of is ∙ equations.specifier-Inline at)

pub specifier-Word : {x : Specifier} (at : ℕ) (word : TypeWord) → x ≡ specifier.Word at word →
    (specifier_of x).height ≡ 1
specifier-Word at word is = ap (λ y. y.height) (ap specifier_of is ∙ equations.specifier-Word at word)

pub specifier-Typedef : {x : Specifier} (at : ℕ) (name : List ℕ) → x ≡ specifier.Typedef at name →
    (specifier_of x).height ≡ 1
specifier-Typedef at name is = ap (λ y. y.height) (ap specifier_of is ∙ equations.specifier-Typedef at name)

pub specifier-Tag : {x : Specifier} (at : ℕ) (kind : AggregateKind) (tag : TagName) → x ≡ specifier.Tag at kind tag →
    (specifier_of x).height ≡ 1
specifier-Tag at kind tag is = ap (λ y. y.height) (ap specifier_of is ∙ equations.specifier-Tag at kind tag)

pub specifier-EnumTag : {x : Specifier} (at : ℕ) (tag : TagName) → x ≡ specifier.EnumTag at tag →
    (specifier_of x).height ≡ 1
specifier-EnumTag at tag is = ap (λ y. y.height) (ap specifier_of is ∙ equations.specifier-EnumTag at tag)

pub specifier-Aggregate : {x : Specifier} (at : ℕ) (kind : AggregateKind) (tag : Option TagName)
    (members : List MemberDeclaration) → x ≡ specifier.Aggregate at kind tag members → (specifier_of x).height ≡ suc
    (highest (map member_of members))
specifier-Aggregate at kind tag members is =
    ap (λ y. y.height) (ap specifier_of is ∙ equations.specifier-Aggregate at kind tag members)

pub specifier-Enumeration : {x : Specifier} (at : ℕ) (tag : Option TagName) (enumerators : List Enumerator)
    (trailing : Bool) → x ≡ specifier.Enumeration at tag enumerators trailing → (specifier_of x).height ≡ suc
    (highest (map enumerator_of enumerators))
specifier-Enumeration at tag enumerators trailing is =
    ap (λ y. y.height) (ap specifier_of is ∙ equations.specifier-Enumeration at tag enumerators trailing)

-- ---- what has no height of its own

pub field-Plain : {x : Field} (declarator : Declarator) → x ≡ field.Plain declarator → (field_of x).height ≡
    (form declarator).height
field-Plain declarator is = ap (λ y. y.height) (ap field_of is ∙ equations.field-Plain declarator)

pub field-Bits : {x : Field} (at : ℕ) (named : Option Declarator) (width : Expr) → x ≡ field.Bits at named width →
    (field_of x).height ≡ max (form_height (option_map form named)) (shape width).height
field-Bits at named width is = ap (λ y. y.height) (ap field_of is ∙ equations.field-Bits at named width)

pub enumerator-is : (x : Enumerator) → (enumerator_of x).height ≡ height_of (option_map shape x.value)
enumerator-is x = ap (λ y. y.height) (equations.enumerator-is x)

pub member-is : (x : MemberDeclaration) → (member_of x).height ≡ max
    (highest_specifier (map specifier_of x.specifiers)) (highest (map field_of x.fields))
member-is x = ap (λ y. y.height) (equations.member-is x)

pub parameter-is : (x : Parameter) → (parameter_of x).height ≡ max (highest_specifier (map specifier_of x.specifiers))
    (form x.declarator).height
parameter-is x = ap (λ y. y.height) (equations.parameter-is x)

pub type-name-is : (x : TypeName) → (type_name_of x).height ≡ max (highest_specifier (map specifier_of x.specifiers))
    (form x.declarator).height
type-name-is x = ap (λ y. y.height) (equations.type-name-is x)
