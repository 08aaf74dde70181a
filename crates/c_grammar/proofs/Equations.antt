-- What the grammar says of each kind of tree, in terms of the trees in it.
use Rattle.std.proofs.Common.{◌≡◌, ℕ, ℤ, List, Option, Bool}
use Rattle.std.specs.Prelude.{map, option_map}
use Rattle.c_language.specs.declared.token.IntegerConstant.{IntegerConstant}
use Rattle.c_language.specs.declared.expr.UnaryOperator.{UnaryOperator}
use Rattle.c_language.specs.declared.expr.PostfixOperator.{PostfixOperator}
use Rattle.c_language.specs.declared.expr.BinaryOperator.{BinaryOperator}
use Rattle.c_language.specs.declared.expr.StorageClass.{StorageClass}
use Rattle.c_language.specs.declared.expr.Qualifier.{Qualifier}
use Rattle.c_language.specs.declared.expr.TypeWord.{TypeWord}
use Rattle.c_language.specs.declared.expr.AggregateKind.{AggregateKind}
use Rattle.c_language.specs.declared.expr.TagName.{TagName}
use Rattle.c_language.specs.declared.expr.ArrayWord.{ArrayWord}
use Rattle.c_language.specs.declared.expr.Expr.{Expr}
use Rattle.c_language.specs.declared.expr.Declarator.{Declarator}
use Rattle.c_language.specs.declared.expr.Enumerator.{Enumerator}
use Rattle.c_language.specs.declared.expr.MemberDeclaration.{MemberDeclaration}
use Rattle.c_language.specs.declared.expr.Parameter.{Parameter}
use Rattle.c_language.specs.declared.expr.TypeName.{TypeName}
use Rattle.c_language.specs.declared.expr.Expr.TheVariants as expr
use Rattle.c_language.specs.declared.expr.Declarator.TheVariants as declarator
use Rattle.c_language.specs.declared.expr.Specifier.TheVariants as specifier
use Rattle.c_language.specs.declared.expr.Field.TheVariants as field
use Rattle.c_language.specs.declared.expr.Declarator.TheOpen as open_
use Rattle.c_grammar.specs.Parts.{Name}
use Rattle.c_language.proofs.Folds.{
  fold-Aggregate,
  fold-Array,
  fold-Arrow,
  fold-Assign,
  fold-Binary,
  fold-Bits,
  fold-Call,
  fold-Cast,
  fold-Character,
  fold-Comma,
  fold-Conditional,
  fold-EnumTag,
  fold-Enumeration,
  fold-Enumerator,
  fold-Floating,
  fold-Function,
  fold-FunctionName,
  fold-Grouped,
  fold-Identifier,
  fold-Inline,
  fold-Integer,
  fold-Member,
  fold-MemberDeclaration,
  fold-Name,
  fold-Omitted,
  fold-Parameter,
  fold-Parenthesized,
  fold-Plain,
  fold-Pointer,
  fold-Postfix,
  fold-Qualifier,
  fold-SizeofExpr,
  fold-SizeofType,
  fold-Storage,
  fold-StringLiteral,
  fold-Subscript,
  fold-Tag,
  fold-TypeName,
  fold-Typedef,
  fold-Unary,
  fold-Word,
}
use Rattle.c_grammar.specs.Grammar.{
  grammar,
  shape,
  form,
  specifier_of,
  field_of,
  enumerator_of,
  member_of,
  parameter_of,
  type_name_of,
  spelled,
  formed,
  specified,
  field_piece,
  enumerator_piece,
  member_piece,
  parameter_piece,
  type_name_piece,
}

-- ---- expressions

pub shape-Integer : (at : ℕ) (constant : IntegerConstant) → shape (expr.Integer at constant) ≡ spelled
    (open_.Integer at constant)
unfolding shape form specifier_of field_of enumerator_of member_of parameter_of type_name_of
shape-Integer at constant = fold-Integer grammar at constant

pub shape-Floating : (at : ℕ) → shape (expr.Floating at) ≡ spelled (open_.Floating at)
unfolding shape form specifier_of field_of enumerator_of member_of parameter_of type_name_of
shape-Floating at = fold-Floating grammar at

pub shape-Character : (at : ℕ) (value : ℤ) → shape (expr.Character at value) ≡ spelled (open_.Character at value)
unfolding shape form specifier_of field_of enumerator_of member_of parameter_of type_name_of
shape-Character at value = fold-Character grammar at value

pub shape-StringLiteral : (at : ℕ) (pieces : List (List ℕ)) → shape (expr.StringLiteral at pieces) ≡ spelled
    (open_.StringLiteral at pieces)
unfolding shape form specifier_of field_of enumerator_of member_of parameter_of type_name_of
shape-StringLiteral at pieces = fold-StringLiteral grammar at pieces

pub shape-FunctionName : (at : ℕ) → shape (expr.FunctionName at) ≡ spelled (open_.FunctionName at)
unfolding shape form specifier_of field_of enumerator_of member_of parameter_of type_name_of
shape-FunctionName at = fold-FunctionName grammar at

pub shape-Identifier : (at : ℕ) (name : Name) → shape (expr.Identifier at name) ≡ spelled (open_.Identifier at name)
unfolding shape form specifier_of field_of enumerator_of member_of parameter_of type_name_of
shape-Identifier at name = fold-Identifier grammar at name

pub shape-Parenthesized : (at : ℕ) (inner : Expr) → shape (expr.Parenthesized at inner) ≡ spelled
    (open_.Parenthesized at (shape inner))
unfolding shape form specifier_of field_of enumerator_of member_of parameter_of type_name_of
shape-Parenthesized at inner = fold-Parenthesized grammar at inner

pub shape-Subscript : (at : ℕ) (array : Expr) (index : Expr) → shape (expr.Subscript at array index) ≡ spelled
    (open_.Subscript at (shape array) (shape index))
unfolding shape form specifier_of field_of enumerator_of member_of parameter_of type_name_of
shape-Subscript at array index = fold-Subscript grammar at array index

pub shape-Call : (at : ℕ) (callee : Expr) (arguments : List Expr) → shape (expr.Call at callee arguments) ≡ spelled
    (open_.Call at (shape callee) (map shape arguments))
unfolding shape form specifier_of field_of enumerator_of member_of parameter_of type_name_of
shape-Call at callee arguments = fold-Call grammar at callee arguments

pub shape-Member : (at : ℕ) (object : Expr) (member : Name) → shape (expr.Member at object member) ≡ spelled
    (open_.Member at (shape object) member)
unfolding shape form specifier_of field_of enumerator_of member_of parameter_of type_name_of
shape-Member at object member = fold-Member grammar at object member

pub shape-Arrow : (at : ℕ) (pointer : Expr) (member : Name) → shape (expr.Arrow at pointer member) ≡ spelled
    (open_.Arrow at (shape pointer) member)
unfolding shape form specifier_of field_of enumerator_of member_of parameter_of type_name_of
shape-Arrow at pointer member = fold-Arrow grammar at pointer member

pub shape-Postfix : (at : ℕ) (operator : PostfixOperator) (operand : Expr) → shape (expr.Postfix at operator operand)
    ≡ spelled (open_.Postfix at operator (shape operand))
unfolding shape form specifier_of field_of enumerator_of member_of parameter_of type_name_of
shape-Postfix at operator operand = fold-Postfix grammar at operator operand

pub shape-Unary : (at : ℕ) (operator : UnaryOperator) (operand : Expr) → shape (expr.Unary at operator operand) ≡
    spelled (open_.Unary at operator (shape operand))
unfolding shape form specifier_of field_of enumerator_of member_of parameter_of type_name_of
shape-Unary at operator operand = fold-Unary grammar at operator operand

pub shape-SizeofExpr : (at : ℕ) (operand : Expr) → shape (expr.SizeofExpr at operand) ≡ spelled
    (open_.SizeofExpr at (shape operand))
unfolding shape form specifier_of field_of enumerator_of member_of parameter_of type_name_of
shape-SizeofExpr at operand = fold-SizeofExpr grammar at operand

pub shape-SizeofType : (at : ℕ) (type_name : TypeName) → shape (expr.SizeofType at type_name) ≡ spelled
    (open_.SizeofType at (type_name_of type_name))
unfolding shape form specifier_of field_of enumerator_of member_of parameter_of type_name_of
shape-SizeofType at type_name = fold-SizeofType grammar at type_name

pub shape-Cast : (at : ℕ) (type_name : TypeName) (operand : Expr) → shape (expr.Cast at type_name operand) ≡ spelled
    (open_.Cast at (type_name_of type_name) (shape operand))
unfolding shape form specifier_of field_of enumerator_of member_of parameter_of type_name_of
shape-Cast at type_name operand = fold-Cast grammar at type_name operand

pub shape-Binary : (at : ℕ) (operator : BinaryOperator) (left : Expr) (right : Expr) →
    shape (expr.Binary at operator left right) ≡ spelled (open_.Binary at operator (shape left) (shape right))
unfolding shape form specifier_of field_of enumerator_of member_of parameter_of type_name_of
shape-Binary at operator left right = fold-Binary grammar at operator left right

pub shape-Conditional : (at : ℕ) (condition : Expr) (positive : Expr) (negative : Expr) →
    shape (expr.Conditional at condition positive negative) ≡ spelled (open_.Conditional at (shape condition)
    (shape positive) (shape negative))
unfolding shape form specifier_of field_of enumerator_of member_of parameter_of type_name_of
shape-Conditional at condition positive negative = fold-Conditional grammar at condition positive negative

pub shape-Assign : (at : ℕ) (operator : Option BinaryOperator) (target : Expr) (value : Expr) →
    shape (expr.Assign at operator target value) ≡ spelled (open_.Assign at operator (shape target) (shape value))
unfolding shape form specifier_of field_of enumerator_of member_of parameter_of type_name_of
shape-Assign at operator target value = fold-Assign grammar at operator target value

pub shape-Comma : (at : ℕ) (left : Expr) (right : Expr) → shape (expr.Comma at left right) ≡ spelled
    (open_.Comma at (shape left) (shape right))
unfolding shape form specifier_of field_of enumerator_of member_of parameter_of type_name_of
shape-Comma at left right = fold-Comma grammar at left right

-- ---- declarators

pub form-Name : (at : ℕ) (name : Name) → form (declarator.Name at name) ≡ formed (open_.Name at name)
unfolding shape form specifier_of field_of enumerator_of member_of parameter_of type_name_of
form-Name at name = fold-Name grammar at name

pub form-Omitted : form declarator.Omitted ≡ formed open_.Omitted
unfolding shape form specifier_of field_of enumerator_of member_of parameter_of type_name_of
form-Omitted = fold-Omitted grammar

pub form-Grouped : (at : ℕ) (inner : Declarator) → form (declarator.Grouped at inner) ≡ formed
    (open_.Grouped at (form inner))
unfolding shape form specifier_of field_of enumerator_of member_of parameter_of type_name_of
form-Grouped at inner = fold-Grouped grammar at inner

pub form-Pointer : (at : ℕ) (qualifiers : List Qualifier) (inner : Declarator) →
    form (declarator.Pointer at qualifiers inner) ≡ formed (open_.Pointer at qualifiers (form inner))
unfolding shape form specifier_of field_of enumerator_of member_of parameter_of type_name_of
form-Pointer at qualifiers inner = fold-Pointer grammar at qualifiers inner

pub form-Array : (at : ℕ) (inner : Declarator) (words : List ArrayWord) (length' : Option Expr) →
    form (declarator.Array at inner words length') ≡ formed (open_.Array at (form inner) words
    (option_map shape length'))
unfolding shape form specifier_of field_of enumerator_of member_of parameter_of type_name_of
form-Array at inner words length' = fold-Array grammar at inner words length'

pub form-Function : (at : ℕ) (inner : Declarator) (parameters : List Parameter) (variadic : Bool) →
    form (declarator.Function at inner parameters variadic) ≡ formed (open_.Function at (form inner)
    (map parameter_of parameters) variadic)
unfolding shape form specifier_of field_of enumerator_of member_of parameter_of type_name_of
form-Function at inner parameters variadic = fold-Function grammar at inner parameters variadic

-- ---- specifiers

pub specifier-Storage : (at : ℕ) (class : StorageClass) → specifier_of (specifier.Storage at class) ≡ specified
    (open_.Storage at class)
unfolding shape form specifier_of field_of enumerator_of member_of parameter_of type_name_of
specifier-Storage at class = fold-Storage grammar at class

pub specifier-Qualifier : (at : ℕ) (qualifier : Qualifier) → specifier_of (specifier.Qualifier at qualifier) ≡
    specified (open_.Qualifier at qualifier)
unfolding shape form specifier_of field_of enumerator_of member_of parameter_of type_name_of
specifier-Qualifier at qualifier = fold-Qualifier grammar at qualifier

pub specifier-Inline : (at : ℕ) → specifier_of (specifier.Inline at) ≡ specified (open_.Inline at)
unfolding shape form specifier_of field_of enumerator_of member_of parameter_of type_name_of
specifier-Inline at = fold-Inline grammar at

pub specifier-Word : (at : ℕ) (word : TypeWord) → specifier_of (specifier.Word at word) ≡ specified
    (open_.Word at word)
unfolding shape form specifier_of field_of enumerator_of member_of parameter_of type_name_of
specifier-Word at word = fold-Word grammar at word

pub specifier-Typedef : (at : ℕ) (name : Name) → specifier_of (specifier.Typedef at name) ≡ specified
    (open_.Typedef at name)
unfolding shape form specifier_of field_of enumerator_of member_of parameter_of type_name_of
specifier-Typedef at name = fold-Typedef grammar at name

pub specifier-Tag : (at : ℕ) (kind : AggregateKind) (tag : TagName) → specifier_of (specifier.Tag at kind tag) ≡
    specified (open_.Tag at kind tag)
unfolding shape form specifier_of field_of enumerator_of member_of parameter_of type_name_of
specifier-Tag at kind tag = fold-Tag grammar at kind tag

pub specifier-Aggregate : (at : ℕ) (kind : AggregateKind) (tag : Option TagName) (members : List MemberDeclaration) →
    specifier_of (specifier.Aggregate at kind tag members) ≡ specified (open_.Aggregate at kind tag
    (map member_of members))
unfolding shape form specifier_of field_of enumerator_of member_of parameter_of type_name_of
specifier-Aggregate at kind tag members = fold-Aggregate grammar at kind tag members

pub specifier-EnumTag : (at : ℕ) (tag : TagName) → specifier_of (specifier.EnumTag at tag) ≡ specified
    (open_.EnumTag at tag)
unfolding shape form specifier_of field_of enumerator_of member_of parameter_of type_name_of
specifier-EnumTag at tag = fold-EnumTag grammar at tag

pub specifier-Enumeration : (at : ℕ) (tag : Option TagName) (enumerators : List Enumerator) (trailing : Bool) →
    specifier_of (specifier.Enumeration at tag enumerators trailing) ≡ specified (open_.Enumeration at tag
    (map enumerator_of enumerators) trailing)
unfolding shape form specifier_of field_of enumerator_of member_of parameter_of type_name_of
specifier-Enumeration at tag enumerators trailing = fold-Enumeration grammar at tag enumerators trailing

-- ---- fields

pub field-Plain : (declarator : Declarator) → field_of (field.Plain declarator) ≡ field_piece
    (open_.Plain (form declarator))
unfolding shape form specifier_of field_of enumerator_of member_of parameter_of type_name_of
field-Plain declarator = fold-Plain grammar declarator

pub field-Bits : (at : ℕ) (declarator : Option Declarator) (width : Expr) → field_of (field.Bits at declarator width)
    ≡ field_piece (open_.Bits at (option_map form declarator) (shape width))
unfolding shape form specifier_of field_of enumerator_of member_of parameter_of type_name_of
field-Bits at declarator width = fold-Bits grammar at declarator width

-- ---- enumerators, member declarations, parameters and type names

pub enumerator-is : (x : Enumerator) → enumerator_of x ≡ enumerator_piece (record {
  at = x.at;
  name = x.name;
  value = option_map shape x.value;
})
unfolding shape form specifier_of field_of enumerator_of member_of parameter_of type_name_of
enumerator-is x = fold-Enumerator grammar x

pub member-is : (x : MemberDeclaration) → member_of x ≡ member_piece (record {
  specifiers = map specifier_of x.specifiers;
  fields = map field_of x.fields;
})
unfolding shape form specifier_of field_of enumerator_of member_of parameter_of type_name_of
member-is x = fold-MemberDeclaration grammar x

pub parameter-is : (x : Parameter) → parameter_of x ≡ parameter_piece (record {
  specifiers = map specifier_of x.specifiers;
  declarator = form x.declarator;
})
unfolding shape form specifier_of field_of enumerator_of member_of parameter_of type_name_of
parameter-is x = fold-Parameter grammar x

pub type-name-is : (x : TypeName) → type_name_of x ≡ type_name_piece (record {
  specifiers = map specifier_of x.specifiers;
  declarator = form x.declarator;
})
unfolding shape form specifier_of field_of enumerator_of member_of parameter_of type_name_of
type-name-is x = fold-TypeName grammar x
