-- One induction over all trees that stand in one another.
use Rattle.std.proofs.Common.{ℕ, List, [], ◌∷◌, Option, Some, None, Bool, sym, subst}
use Rattle.std.specs.Prelude.{ℤ, map}
use denote.Hole.Holds.{Such}
use Rattle.c_language.specs.declared.token.IntegerConstant.{IntegerConstant}
use Rattle.c_language.specs.declared.expr.UnaryOperator.{UnaryOperator}
use Rattle.c_language.specs.declared.expr.PostfixOperator.{PostfixOperator}
use Rattle.c_language.specs.declared.expr.BinaryOperator.{BinaryOperator}
use Rattle.c_language.specs.declared.expr.StorageClass.{StorageClass}
use Rattle.c_language.specs.declared.expr.Qualifier.{Qualifier}
use Rattle.c_language.specs.declared.expr.TypeWord.{TypeWord}
use Rattle.c_language.specs.declared.expr.AggregateKind.{AggregateKind}
use Rattle.c_language.specs.declared.expr.ArrayWord.{ArrayWord}
use Rattle.c_language.specs.declared.expr.TagName.{TagName}
use Rattle.c_language.specs.declared.expr.Declarator.{Declarator, ind-Declarator, roll-Declarator, map-Declarator}
use Rattle.c_language.specs.declared.expr.Expr.{Expr, ind-Expr, roll-Expr, map-Expr}
use Rattle.c_language.specs.declared.expr.Field.{Field, ind-Field, roll-Field, map-Field}
use Rattle.c_language.specs.declared.expr.Specifier.{Specifier, ind-Specifier, roll-Specifier, map-Specifier}
use Rattle.c_language.specs.declared.expr.Enumerator.{Enumerator, ind-Enumerator, roll-Enumerator, map-Enumerator}
use Rattle.c_language.specs.declared.expr.MemberDeclaration.{MemberDeclaration, ind-MemberDeclaration}
use Rattle.c_language.specs.declared.expr.MemberDeclaration.{roll-MemberDeclaration, map-MemberDeclaration}
use Rattle.c_language.specs.declared.expr.Parameter.{Parameter, ind-Parameter, roll-Parameter, map-Parameter}
use Rattle.c_language.specs.declared.expr.TypeName.{TypeName, ind-TypeName, roll-TypeName, map-TypeName}
use Rattle.c_language.specs.declared.expr.Declarator.TheBlock.{
  the_family,
  member-Declarator,
  member-Expr,
  member-Field,
  member-Specifier,
  member-Enumerator,
  member-MemberDeclaration,
  member-Parameter,
  member-TypeName,
}
use Rattle.c_language.specs.declared.expr.Declarator.TheFolds.{claims}
use Rattle.c_language.specs.declared.expr.Declarator.TheOpen as open_
use Rattle.c_language.specs.declared.expr.Expr.TheVariants as expr
use Rattle.c_language.specs.declared.expr.Specifier.TheVariants as specifier
use Rattle.c_language.specs.declared.expr.Field.TheVariants as field
use Rattle.c_language.specs.declared.expr.Declarator.TheVariants as declarator
use Rattle.c_language.specs.declared.expr.Expr.TheVariants.{
  rolls-Integer,
  rolls-Floating,
  rolls-Character,
  rolls-StringLiteral,
  rolls-FunctionName,
  rolls-Identifier,
  rolls-Parenthesized,
  rolls-Subscript,
  rolls-Call,
  rolls-Member,
  rolls-Arrow,
  rolls-Postfix,
  rolls-Unary,
  rolls-SizeofExpr,
  rolls-SizeofType,
  rolls-Cast,
  rolls-Binary,
  rolls-Conditional,
  rolls-Assign,
  rolls-Comma,
}
use Rattle.c_language.specs.declared.expr.Specifier.TheVariants.{
  rolls-Storage,
  rolls-Qualifier,
  rolls-Inline,
  rolls-Word,
  rolls-Typedef,
  rolls-Tag,
  rolls-Aggregate,
  rolls-EnumTag,
  rolls-Enumeration,
}
use Rattle.c_language.specs.declared.expr.Field.TheVariants.{rolls-Plain, rolls-Bits}
use Rattle.c_language.specs.declared.expr.Declarator.TheVariants.{
  rolls-Name,
  rolls-Omitted,
  rolls-Grouped,
  rolls-Pointer,
  rolls-Array,
  rolls-Function,
}
use Rattle.c_language.proofs.Folds.{Name}

-- each of the list meets P
abbrev pub Each : {A : Type 0} → (A → Type 0) → List A → Type 0
Each P [] = Unit {0}
Each P (x ∷ xs) = P x × Each P xs

-- so does the tree, where there is one
abbrev pub Maybe : {A : Type 0} → (A → Type 0) → Option A → Type 0
Maybe P None = Unit {0}
Maybe P (Some x) = P x

-- what holds of every tree wherever it holds of the trees in it
pub record Steps (D : Declarator → Type 0) (E : Expr → Type 0) (F : Field → Type 0) (S : Specifier → Type 0)
    (N : Enumerator → Type 0) (M : MemberDeclaration → Type 0) (P : Parameter → Type 0) (T : TypeName →
    Type 0) : Type 0 where
  pub on_integer : (at : ℕ) (constant : IntegerConstant) → E (expr.Integer at constant)
  pub on_floating : (at : ℕ) → E (expr.Floating at)
  pub on_character : (at : ℕ) (value : ℤ) → E (expr.Character at value)
  pub on_string_literal : (at : ℕ) (pieces : List (List ℕ)) → E (expr.StringLiteral at pieces)
  pub on_function_name : (at : ℕ) → E (expr.FunctionName at)
  pub on_identifier : (at : ℕ) (name : Name) → E (expr.Identifier at name)
  pub on_parenthesized : (at : ℕ) (inner : Expr) → E inner → E (expr.Parenthesized at inner)
  pub on_subscript : (at : ℕ) (array : Expr) (index : Expr) → E array → E index → E (expr.Subscript at array index)
  pub on_call : (at : ℕ) (callee : Expr) (arguments : List Expr) → E callee → Each E arguments → E (expr.Call at
      callee arguments)
  pub on_member : (at : ℕ) (object : Expr) (member : Name) → E object → E (expr.Member at object member)
  pub on_arrow : (at : ℕ) (pointer : Expr) (member : Name) → E pointer → E (expr.Arrow at pointer member)
  pub on_postfix : (at : ℕ) (operator : PostfixOperator) (operand : Expr) → E operand → E (expr.Postfix at operator
      operand)
  pub on_unary : (at : ℕ) (operator : UnaryOperator) (operand : Expr) → E operand → E (expr.Unary at operator operand)
  pub on_sizeof_expr : (at : ℕ) (operand : Expr) → E operand → E (expr.SizeofExpr at operand)
  pub on_sizeof_type : (at : ℕ) (type_name : TypeName) → T type_name → E (expr.SizeofType at type_name)
  pub on_cast : (at : ℕ) (type_name : TypeName) (operand : Expr) → T type_name → E operand → E (expr.Cast at
      type_name operand)
  pub on_binary : (at : ℕ) (operator : BinaryOperator) (left : Expr) (right : Expr) → E left → E right → E
      (expr.Binary at operator left right)
  pub on_conditional : (at : ℕ) (condition : Expr) (positive : Expr) (negative : Expr) → E condition → E positive → E
      negative → E (expr.Conditional at condition positive negative)
  pub on_assign : (at : ℕ) (operator : Option BinaryOperator) (target : Expr) (value : Expr) → E target → E value → E
      (expr.Assign at operator target value)
  pub on_comma : (at : ℕ) (left : Expr) (right : Expr) → E left → E right → E (expr.Comma at left right)
  pub on_specifier_storage : (at : ℕ) (class : StorageClass) → S (specifier.Storage at class)
  pub on_specifier_qualifier : (at : ℕ) (qualifier : Qualifier) → S (specifier.Qualifier at qualifier)
  pub on_specifier_inline : (at : ℕ) → S (specifier.Inline at)
  pub on_specifier_word : (at : ℕ) (word : TypeWord) → S (specifier.Word at word)
  pub on_specifier_typedef : (at : ℕ) (name : Name) → S (specifier.Typedef at name)
  pub on_specifier_tag : (at : ℕ) (aggregate : AggregateKind) (tag : TagName) → S (specifier.Tag at aggregate tag)
  pub on_specifier_aggregate : (at : ℕ) (aggregate : AggregateKind) (tag : Option TagName) (members : List
      MemberDeclaration) → Each M members → S (specifier.Aggregate at aggregate tag members)
  pub on_specifier_enum_tag : (at : ℕ) (tag : TagName) → S (specifier.EnumTag at tag)
  pub on_specifier_enumeration : (at : ℕ) (tag : Option TagName) (enumerators : List Enumerator) (trailing : Bool) →
      Each N enumerators → S (specifier.Enumeration at tag enumerators trailing)
  pub on_field_plain : (declarator : Declarator) → D declarator → F (field.Plain declarator)
  pub on_field_bits : (at : ℕ) (declarator : Option Declarator) (width : Expr) → Maybe D declarator → E width → F
      (field.Bits at declarator width)
  pub on_declarator_name : (at : ℕ) (name : Name) → D (declarator.Name at name)
  pub on_declarator_omitted : D declarator.Omitted
  pub on_declarator_grouped : (at : ℕ) (inner : Declarator) → D inner → D (declarator.Grouped at inner)
  pub on_declarator_pointer : (at : ℕ) (qualifiers : List Qualifier) (inner : Declarator) → D inner → D
      (declarator.Pointer at qualifiers inner)
  pub on_declarator_array : (at : ℕ) (inner : Declarator) (words : List ArrayWord) (length' : Option Expr) → D inner
      → Maybe E length' → D (declarator.Array at inner words length')
  pub on_declarator_function : (at : ℕ) (inner : Declarator) (parameters : List Parameter) (variadic : Bool) → D
      inner → Each P parameters → D (declarator.Function at inner parameters variadic)
  pub on_type_name : (type_name : TypeName) → Each S type_name.specifiers → D type_name.declarator → T type_name
  pub on_member_declaration : (declaration : MemberDeclaration) → Each S declaration.specifiers → Each F
      declaration.fields → M declaration
  pub on_enumerator : (enumerator : Enumerator) → Maybe E enumerator.value → N enumerator
  pub on_parameter : (parameter : Parameter) → Each S parameter.specifiers → D parameter.declarator → P parameter

module _ (D : Declarator → Type 0) (E : Expr → Type 0) (F : Field → Type 0) (S : Specifier → Type 0)
    (N : Enumerator → Type 0) (M : MemberDeclaration → Type 0) (P : Parameter → Type 0) (T : TypeName → Type 0)
    (s : Steps D E F S N M P T) where
  abbrev ProvedDeclarator : Type 0
  ProvedDeclarator = Such the_family (claims D E F S N M P T) member-Declarator

  abbrev ProvedExpr : Type 0
  ProvedExpr = Such the_family (claims D E F S N M P T) member-Expr

  abbrev ProvedField : Type 0
  ProvedField = Such the_family (claims D E F S N M P T) member-Field

  abbrev ProvedSpecifier : Type 0
  ProvedSpecifier = Such the_family (claims D E F S N M P T) member-Specifier

  abbrev ProvedEnumerator : Type 0
  ProvedEnumerator = Such the_family (claims D E F S N M P T) member-Enumerator

  abbrev ProvedMemberDeclaration : Type 0
  ProvedMemberDeclaration = Such the_family (claims D E F S N M P T) member-MemberDeclaration

  abbrev ProvedParameter : Type 0
  ProvedParameter = Such the_family (claims D E F S N M P T) member-Parameter

  abbrev ProvedTypeName : Type 0
  ProvedTypeName = Such the_family (claims D E F S N M P T) member-TypeName

  -- the trees of a layer of proved trees
  abbrev declarator_under :
      open_.Declarator-F ProvedDeclarator ProvedExpr ProvedField ProvedSpecifier ProvedEnumerator
      ProvedMemberDeclaration ProvedParameter ProvedTypeName → Declarator
  declarator_under y =
      roll-Declarator (map-Declarator ProvedDeclarator ProvedExpr ProvedField ProvedSpecifier ProvedEnumerator
      ProvedMemberDeclaration ProvedParameter ProvedTypeName Declarator Expr Field Specifier Enumerator
      MemberDeclaration Parameter TypeName (λ e. e.0) (λ e. e.0) (λ e. e.0) (λ e. e.0) (λ e. e.0) (λ e. e.0) (λ
      e. e.0) (λ e. e.0) y)

  -- the trees of a layer of proved trees
  abbrev expr_under :
      open_.Expr-F ProvedDeclarator ProvedExpr ProvedField ProvedSpecifier ProvedEnumerator ProvedMemberDeclaration
      ProvedParameter ProvedTypeName → Expr
  expr_under y =
      roll-Expr (map-Expr ProvedDeclarator ProvedExpr ProvedField ProvedSpecifier ProvedEnumerator
      ProvedMemberDeclaration ProvedParameter ProvedTypeName Declarator Expr Field Specifier Enumerator
      MemberDeclaration Parameter TypeName (λ e. e.0) (λ e. e.0) (λ e. e.0) (λ e. e.0) (λ e. e.0) (λ e. e.0) (λ
      e. e.0) (λ e. e.0) y)

  -- the trees of a layer of proved trees
  abbrev field_under :
      open_.Field-F ProvedDeclarator ProvedExpr ProvedField ProvedSpecifier ProvedEnumerator ProvedMemberDeclaration
      ProvedParameter ProvedTypeName → Field
  field_under y =
      roll-Field (map-Field ProvedDeclarator ProvedExpr ProvedField ProvedSpecifier ProvedEnumerator
      ProvedMemberDeclaration ProvedParameter ProvedTypeName Declarator Expr Field Specifier Enumerator
      MemberDeclaration Parameter TypeName (λ e. e.0) (λ e. e.0) (λ e. e.0) (λ e. e.0) (λ e. e.0) (λ e. e.0) (λ
      e. e.0) (λ e. e.0) y)

  -- the trees of a layer of proved trees
  abbrev specifier_under :
      open_.Specifier-F ProvedDeclarator ProvedExpr ProvedField ProvedSpecifier ProvedEnumerator
      ProvedMemberDeclaration ProvedParameter ProvedTypeName → Specifier
  specifier_under y =
      roll-Specifier (map-Specifier ProvedDeclarator ProvedExpr ProvedField ProvedSpecifier ProvedEnumerator
      ProvedMemberDeclaration ProvedParameter ProvedTypeName Declarator Expr Field Specifier Enumerator
      MemberDeclaration Parameter TypeName (λ e. e.0) (λ e. e.0) (λ e. e.0) (λ e. e.0) (λ e. e.0) (λ e. e.0) (λ
      e. e.0) (λ e. e.0) y)

  -- the trees of a layer of proved trees
  abbrev enumerator_under :
      open_.Enumerator-F ProvedDeclarator ProvedExpr ProvedField ProvedSpecifier ProvedEnumerator
      ProvedMemberDeclaration ProvedParameter ProvedTypeName → Enumerator
  enumerator_under y =
      roll-Enumerator (map-Enumerator ProvedDeclarator ProvedExpr ProvedField ProvedSpecifier ProvedEnumerator
      ProvedMemberDeclaration ProvedParameter ProvedTypeName Declarator Expr Field Specifier Enumerator
      MemberDeclaration Parameter TypeName (λ e. e.0) (λ e. e.0) (λ e. e.0) (λ e. e.0) (λ e. e.0) (λ e. e.0) (λ
      e. e.0) (λ e. e.0) y)

  -- the trees of a layer of proved trees
  abbrev member_under :
      open_.MemberDeclaration-F ProvedDeclarator ProvedExpr ProvedField ProvedSpecifier ProvedEnumerator
      ProvedMemberDeclaration ProvedParameter ProvedTypeName → MemberDeclaration
  member_under y =
      roll-MemberDeclaration (map-MemberDeclaration ProvedDeclarator ProvedExpr ProvedField ProvedSpecifier
      ProvedEnumerator ProvedMemberDeclaration ProvedParameter ProvedTypeName Declarator Expr Field Specifier
      Enumerator MemberDeclaration Parameter TypeName (λ e. e.0) (λ e. e.0) (λ e. e.0) (λ e. e.0) (λ e. e.0) (λ
      e. e.0) (λ e. e.0) (λ e. e.0) y)

  -- the trees of a layer of proved trees
  abbrev parameter_under :
      open_.Parameter-F ProvedDeclarator ProvedExpr ProvedField ProvedSpecifier ProvedEnumerator
      ProvedMemberDeclaration ProvedParameter ProvedTypeName → Parameter
  parameter_under y =
      roll-Parameter (map-Parameter ProvedDeclarator ProvedExpr ProvedField ProvedSpecifier ProvedEnumerator
      ProvedMemberDeclaration ProvedParameter ProvedTypeName Declarator Expr Field Specifier Enumerator
      MemberDeclaration Parameter TypeName (λ e. e.0) (λ e. e.0) (λ e. e.0) (λ e. e.0) (λ e. e.0) (λ e. e.0) (λ
      e. e.0) (λ e. e.0) y)

  -- the trees of a layer of proved trees
  abbrev type_name_under :
      open_.TypeName-F ProvedDeclarator ProvedExpr ProvedField ProvedSpecifier ProvedEnumerator
      ProvedMemberDeclaration ProvedParameter ProvedTypeName → TypeName
  type_name_under y =
      roll-TypeName (map-TypeName ProvedDeclarator ProvedExpr ProvedField ProvedSpecifier ProvedEnumerator
      ProvedMemberDeclaration ProvedParameter ProvedTypeName Declarator Expr Field Specifier Enumerator
      MemberDeclaration Parameter TypeName (λ e. e.0) (λ e. e.0) (λ e. e.0) (λ e. e.0) (λ e. e.0) (λ e. e.0) (λ
      e. e.0) (λ e. e.0) y)

  each_expr : (ys : List ProvedExpr) → Each E (map (λ e. e.0) ys)
  each_expr [] = tt
  each_expr (y ∷ ys) = (y.1, each_expr ys)

  each_field : (ys : List ProvedField) → Each F (map (λ e. e.0) ys)
  each_field [] = tt
  each_field (y ∷ ys) = (y.1, each_field ys)

  each_specifier : (ys : List ProvedSpecifier) → Each S (map (λ e. e.0) ys)
  each_specifier [] = tt
  each_specifier (y ∷ ys) = (y.1, each_specifier ys)

  each_enumerator : (ys : List ProvedEnumerator) → Each N (map (λ e. e.0) ys)
  each_enumerator [] = tt
  each_enumerator (y ∷ ys) = (y.1, each_enumerator ys)

  each_member_declaration : (ys : List ProvedMemberDeclaration) → Each M (map (λ e. e.0) ys)
  each_member_declaration [] = tt
  each_member_declaration (y ∷ ys) = (y.1, each_member_declaration ys)

  each_parameter : (ys : List ProvedParameter) → Each P (map (λ e. e.0) ys)
  each_parameter [] = tt
  each_parameter (y ∷ ys) = (y.1, each_parameter ys)

  at_expr : (y : open_.Expr-F ProvedDeclarator ProvedExpr ProvedField ProvedSpecifier ProvedEnumerator
      ProvedMemberDeclaration ProvedParameter ProvedTypeName) → E (expr_under y)
  at_expr (open_.Integer at constant) =
      subst E (sym (rolls-Integer _ _)) (s.on_integer at constant)
  at_expr (open_.Floating at) =
      subst E (sym (rolls-Floating _)) (s.on_floating at)
  at_expr (open_.Character at value) =
      subst E (sym (rolls-Character _ _)) (s.on_character at value)
  at_expr (open_.StringLiteral at pieces) =
      subst E (sym (rolls-StringLiteral _ _)) (s.on_string_literal at pieces)
  at_expr (open_.FunctionName at) =
      subst E (sym (rolls-FunctionName _)) (s.on_function_name at)
  at_expr (open_.Identifier at name) =
      subst E (sym (rolls-Identifier _ _)) (s.on_identifier at name)
  at_expr (open_.Parenthesized at inner) =
      subst E (sym (rolls-Parenthesized _ _)) (s.on_parenthesized at inner.0 inner.1)
  at_expr (open_.Subscript at array index) =
      subst E (sym (rolls-Subscript _ _ _)) (s.on_subscript at array.0 index.0 array.1 index.1)
  at_expr (open_.Call at callee arguments) =
      subst E (sym (rolls-Call _ _ _)) (s.on_call at callee.0 _ callee.1 (each_expr arguments))
  at_expr (open_.Member at object member) =
      subst E (sym (rolls-Member _ _ _)) (s.on_member at object.0 member object.1)
  at_expr (open_.Arrow at pointer member) =
      subst E (sym (rolls-Arrow _ _ _)) (s.on_arrow at pointer.0 member pointer.1)
  at_expr (open_.Postfix at operator operand) =
      subst E (sym (rolls-Postfix _ _ _)) (s.on_postfix at operator operand.0 operand.1)
  at_expr (open_.Unary at operator operand) =
      subst E (sym (rolls-Unary _ _ _)) (s.on_unary at operator operand.0 operand.1)
  at_expr (open_.SizeofExpr at operand) =
      subst E (sym (rolls-SizeofExpr _ _)) (s.on_sizeof_expr at operand.0 operand.1)
  at_expr (open_.SizeofType at type_name) =
      subst E (sym (rolls-SizeofType _ _)) (s.on_sizeof_type at type_name.0 type_name.1)
  at_expr (open_.Cast at type_name operand) =
      subst E (sym (rolls-Cast _ _ _)) (s.on_cast at type_name.0 operand.0 type_name.1 operand.1)
  at_expr (open_.Binary at operator left right) =
      subst E (sym (rolls-Binary _ _ _ _)) (s.on_binary at operator left.0 right.0 left.1 right.1)
  at_expr (open_.Conditional at condition positive negative) =
      subst E (sym (rolls-Conditional _ _ _ _)) (s.on_conditional at condition.0 positive.0 negative.0 condition.1
      positive.1 negative.1)
  at_expr (open_.Assign at operator target value) =
      subst E (sym (rolls-Assign _ _ _ _)) (s.on_assign at operator target.0 value.0 target.1 value.1)
  at_expr (open_.Comma at left right) =
      subst E (sym (rolls-Comma _ _ _)) (s.on_comma at left.0 right.0 left.1 right.1)

  at_specifier : (y : open_.Specifier-F ProvedDeclarator ProvedExpr ProvedField ProvedSpecifier ProvedEnumerator
      ProvedMemberDeclaration ProvedParameter ProvedTypeName) → S (specifier_under y)
  at_specifier (open_.Storage at class) =
      subst S (sym (rolls-Storage _ _)) (s.on_specifier_storage at class)
  at_specifier (open_.Qualifier at qualifier) =
      subst S (sym (rolls-Qualifier _ _)) (s.on_specifier_qualifier at qualifier)
  at_specifier (open_.Inline at) =
      subst S (sym (rolls-Inline _)) (s.on_specifier_inline at)
  at_specifier (open_.Word at word) =
      subst S (sym (rolls-Word _ _)) (s.on_specifier_word at word)
  at_specifier (open_.Typedef at name) =
      subst S (sym (rolls-Typedef _ _)) (s.on_specifier_typedef at name)
  at_specifier (open_.Tag at aggregate tag) =
      subst S (sym (rolls-Tag _ _ _)) (s.on_specifier_tag at aggregate tag)
  at_specifier (open_.Aggregate at aggregate tag members) =
      subst S (sym (rolls-Aggregate _ _ _ _)) (s.on_specifier_aggregate at aggregate tag _ (each_member_declaration
      members))
  at_specifier (open_.EnumTag at tag) =
      subst S (sym (rolls-EnumTag _ _)) (s.on_specifier_enum_tag at tag)
  at_specifier (open_.Enumeration at tag enumerators trailing) =
      subst S (sym (rolls-Enumeration _ _ _ _)) (s.on_specifier_enumeration at tag _ trailing (each_enumerator
      enumerators))

  at_field : (y : open_.Field-F ProvedDeclarator ProvedExpr ProvedField ProvedSpecifier ProvedEnumerator
      ProvedMemberDeclaration ProvedParameter ProvedTypeName) → F (field_under y)
  at_field (open_.Plain declarator) =
      subst F (sym (rolls-Plain _)) (s.on_field_plain declarator.0 declarator.1)
  at_field (open_.Bits at None width) =
      subst F (sym (rolls-Bits _ _ _)) (s.on_field_bits at None width.0 tt width.1)
  at_field (open_.Bits at (Some declarator) width) =
      subst F (sym (rolls-Bits _ _ _)) (s.on_field_bits at (Some declarator.0) width.0 declarator.1 width.1)

  at_declarator : (y : open_.Declarator-F ProvedDeclarator ProvedExpr ProvedField ProvedSpecifier ProvedEnumerator
      ProvedMemberDeclaration ProvedParameter ProvedTypeName) → D (declarator_under y)
  at_declarator (open_.Name at name) =
      subst D (sym (rolls-Name _ _)) (s.on_declarator_name at name)
  at_declarator (open_.Omitted) =
      subst D (sym rolls-Omitted) (s.on_declarator_omitted)
  at_declarator (open_.Grouped at inner) =
      subst D (sym (rolls-Grouped _ _)) (s.on_declarator_grouped at inner.0 inner.1)
  at_declarator (open_.Pointer at qualifiers inner) =
      subst D (sym (rolls-Pointer _ _ _)) (s.on_declarator_pointer at qualifiers inner.0 inner.1)
  at_declarator (open_.Array at inner words None) =
      subst D (sym (rolls-Array _ _ _ _)) (s.on_declarator_array at inner.0 words None inner.1 tt)
  at_declarator (open_.Array at inner words (Some length')) =
      subst D (sym (rolls-Array _ _ _ _)) (s.on_declarator_array at inner.0 words (Some length'.0) inner.1 length'.1)
  at_declarator (open_.Function at inner parameters variadic) =
      subst D (sym (rolls-Function _ _ _ _)) (s.on_declarator_function at inner.0 _ variadic inner.1 (each_parameter
      parameters))

  enumerator_with : (at : ℕ) (name : Name) (value : Option ProvedExpr) → N (enumerator_under (record {
    at = at;
    name
        = name;
    value = value;
  }))
  enumerator_with at name None = s.on_enumerator _ tt
  enumerator_with at name (Some value) = s.on_enumerator _ value.1

  at_type_name : (y : open_.TypeName-F ProvedDeclarator ProvedExpr ProvedField ProvedSpecifier ProvedEnumerator
      ProvedMemberDeclaration ProvedParameter ProvedTypeName) → T (type_name_under y)
  at_type_name y = s.on_type_name _ (each_specifier y.specifiers) y.declarator.1

  at_member : (y : open_.MemberDeclaration-F ProvedDeclarator ProvedExpr ProvedField ProvedSpecifier ProvedEnumerator
      ProvedMemberDeclaration ProvedParameter ProvedTypeName) → M (member_under y)
  at_member y = s.on_member_declaration _ (each_specifier y.specifiers) (each_field y.fields)

  at_enumerator : (y : open_.Enumerator-F ProvedDeclarator ProvedExpr ProvedField ProvedSpecifier ProvedEnumerator
      ProvedMemberDeclaration ProvedParameter ProvedTypeName) → N (enumerator_under y)
  at_enumerator y = enumerator_with y.at y.name y.value

  at_parameter : (y : open_.Parameter-F ProvedDeclarator ProvedExpr ProvedField ProvedSpecifier ProvedEnumerator
      ProvedMemberDeclaration ProvedParameter ProvedTypeName) → P (parameter_under y)
  at_parameter y = s.on_parameter _ (each_specifier y.specifiers) y.declarator.1

  -- ---- the induction, one call a type

  pub of_declarator : (x : Declarator) → D x
  of_declarator x = ind-Declarator D E F S N M P T
      (λ x y is. subst (λ (z : open_.Declarator-F Declarator Expr Field Specifier Enumerator MemberDeclaration
      Parameter TypeName). D (roll-Declarator z)) is (at_declarator y))
      (λ x y is. subst (λ (z : open_.Expr-F Declarator Expr Field Specifier Enumerator MemberDeclaration Parameter
      TypeName). E (roll-Expr z)) is (at_expr y))
      (λ x y is. subst (λ (z : open_.Field-F Declarator Expr Field Specifier Enumerator MemberDeclaration Parameter
      TypeName). F (roll-Field z)) is (at_field y))
      (λ x y is. subst (λ (z : open_.Specifier-F Declarator Expr Field Specifier Enumerator MemberDeclaration Parameter
      TypeName). S (roll-Specifier z)) is (at_specifier y))
      (λ x y is. subst (λ (z : open_.Enumerator-F Declarator Expr Field Specifier Enumerator MemberDeclaration
      Parameter TypeName). N (roll-Enumerator z)) is (at_enumerator y))
      (λ x y is. subst (λ (z : open_.MemberDeclaration-F Declarator Expr Field Specifier Enumerator MemberDeclaration
      Parameter TypeName). M (roll-MemberDeclaration z)) is (at_member y))
      (λ x y is. subst (λ (z : open_.Parameter-F Declarator Expr Field Specifier Enumerator MemberDeclaration Parameter
      TypeName). P (roll-Parameter z)) is (at_parameter y))
      (λ x y is. subst (λ (z : open_.TypeName-F Declarator Expr Field Specifier Enumerator MemberDeclaration Parameter
      TypeName). T (roll-TypeName z)) is (at_type_name y))
      x

  pub of_expr : (x : Expr) → E x
  of_expr x = ind-Expr D E F S N M P T
      (λ x y is. subst (λ (z : open_.Declarator-F Declarator Expr Field Specifier Enumerator MemberDeclaration
      Parameter TypeName). D (roll-Declarator z)) is (at_declarator y))
      (λ x y is. subst (λ (z : open_.Expr-F Declarator Expr Field Specifier Enumerator MemberDeclaration Parameter
      TypeName). E (roll-Expr z)) is (at_expr y))
      (λ x y is. subst (λ (z : open_.Field-F Declarator Expr Field Specifier Enumerator MemberDeclaration Parameter
      TypeName). F (roll-Field z)) is (at_field y))
      (λ x y is. subst (λ (z : open_.Specifier-F Declarator Expr Field Specifier Enumerator MemberDeclaration Parameter
      TypeName). S (roll-Specifier z)) is (at_specifier y))
      (λ x y is. subst (λ (z : open_.Enumerator-F Declarator Expr Field Specifier Enumerator MemberDeclaration
      Parameter TypeName). N (roll-Enumerator z)) is (at_enumerator y))
      (λ x y is. subst (λ (z : open_.MemberDeclaration-F Declarator Expr Field Specifier Enumerator MemberDeclaration
      Parameter TypeName). M (roll-MemberDeclaration z)) is (at_member y))
      (λ x y is. subst (λ (z : open_.Parameter-F Declarator Expr Field Specifier Enumerator MemberDeclaration Parameter
      TypeName). P (roll-Parameter z)) is (at_parameter y))
      (λ x y is. subst (λ (z : open_.TypeName-F Declarator Expr Field Specifier Enumerator MemberDeclaration Parameter
      TypeName). T (roll-TypeName z)) is (at_type_name y))
      x

  pub of_field : (x : Field) → F x
  of_field x = ind-Field D E F S N M P T
      (λ x y is. subst (λ (z : open_.Declarator-F Declarator Expr Field Specifier Enumerator MemberDeclaration
      Parameter TypeName). D (roll-Declarator z)) is (at_declarator y))
      (λ x y is. subst (λ (z : open_.Expr-F Declarator Expr Field Specifier Enumerator MemberDeclaration Parameter
      TypeName). E (roll-Expr z)) is (at_expr y))
      (λ x y is. subst (λ (z : open_.Field-F Declarator Expr Field Specifier Enumerator MemberDeclaration Parameter
      TypeName). F (roll-Field z)) is (at_field y))
      (λ x y is. subst (λ (z : open_.Specifier-F Declarator Expr Field Specifier Enumerator MemberDeclaration Parameter
      TypeName). S (roll-Specifier z)) is (at_specifier y))
      (λ x y is. subst (λ (z : open_.Enumerator-F Declarator Expr Field Specifier Enumerator MemberDeclaration
      Parameter TypeName). N (roll-Enumerator z)) is (at_enumerator y))
      (λ x y is. subst (λ (z : open_.MemberDeclaration-F Declarator Expr Field Specifier Enumerator MemberDeclaration
      Parameter TypeName). M (roll-MemberDeclaration z)) is (at_member y))
      (λ x y is. subst (λ (z : open_.Parameter-F Declarator Expr Field Specifier Enumerator MemberDeclaration Parameter
      TypeName). P (roll-Parameter z)) is (at_parameter y))
      (λ x y is. subst (λ (z : open_.TypeName-F Declarator Expr Field Specifier Enumerator MemberDeclaration Parameter
      TypeName). T (roll-TypeName z)) is (at_type_name y))
      x

  pub of_specifier : (x : Specifier) → S x
  of_specifier x = ind-Specifier D E F S N M P T
      (λ x y is. subst (λ (z : open_.Declarator-F Declarator Expr Field Specifier Enumerator MemberDeclaration
      Parameter TypeName). D (roll-Declarator z)) is (at_declarator y))
      (λ x y is. subst (λ (z : open_.Expr-F Declarator Expr Field Specifier Enumerator MemberDeclaration Parameter
      TypeName). E (roll-Expr z)) is (at_expr y))
      (λ x y is. subst (λ (z : open_.Field-F Declarator Expr Field Specifier Enumerator MemberDeclaration Parameter
      TypeName). F (roll-Field z)) is (at_field y))
      (λ x y is. subst (λ (z : open_.Specifier-F Declarator Expr Field Specifier Enumerator MemberDeclaration Parameter
      TypeName). S (roll-Specifier z)) is (at_specifier y))
      (λ x y is. subst (λ (z : open_.Enumerator-F Declarator Expr Field Specifier Enumerator MemberDeclaration
      Parameter TypeName). N (roll-Enumerator z)) is (at_enumerator y))
      (λ x y is. subst (λ (z : open_.MemberDeclaration-F Declarator Expr Field Specifier Enumerator MemberDeclaration
      Parameter TypeName). M (roll-MemberDeclaration z)) is (at_member y))
      (λ x y is. subst (λ (z : open_.Parameter-F Declarator Expr Field Specifier Enumerator MemberDeclaration Parameter
      TypeName). P (roll-Parameter z)) is (at_parameter y))
      (λ x y is. subst (λ (z : open_.TypeName-F Declarator Expr Field Specifier Enumerator MemberDeclaration Parameter
      TypeName). T (roll-TypeName z)) is (at_type_name y))
      x

  pub of_enumerator : (x : Enumerator) → N x
  of_enumerator x = ind-Enumerator D E F S N M P T
      (λ x y is. subst (λ (z : open_.Declarator-F Declarator Expr Field Specifier Enumerator MemberDeclaration
      Parameter TypeName). D (roll-Declarator z)) is (at_declarator y))
      (λ x y is. subst (λ (z : open_.Expr-F Declarator Expr Field Specifier Enumerator MemberDeclaration Parameter
      TypeName). E (roll-Expr z)) is (at_expr y))
      (λ x y is. subst (λ (z : open_.Field-F Declarator Expr Field Specifier Enumerator MemberDeclaration Parameter
      TypeName). F (roll-Field z)) is (at_field y))
      (λ x y is. subst (λ (z : open_.Specifier-F Declarator Expr Field Specifier Enumerator MemberDeclaration Parameter
      TypeName). S (roll-Specifier z)) is (at_specifier y))
      (λ x y is. subst (λ (z : open_.Enumerator-F Declarator Expr Field Specifier Enumerator MemberDeclaration
      Parameter TypeName). N (roll-Enumerator z)) is (at_enumerator y))
      (λ x y is. subst (λ (z : open_.MemberDeclaration-F Declarator Expr Field Specifier Enumerator MemberDeclaration
      Parameter TypeName). M (roll-MemberDeclaration z)) is (at_member y))
      (λ x y is. subst (λ (z : open_.Parameter-F Declarator Expr Field Specifier Enumerator MemberDeclaration Parameter
      TypeName). P (roll-Parameter z)) is (at_parameter y))
      (λ x y is. subst (λ (z : open_.TypeName-F Declarator Expr Field Specifier Enumerator MemberDeclaration Parameter
      TypeName). T (roll-TypeName z)) is (at_type_name y))
      x

  pub of_member_declaration : (x : MemberDeclaration) → M x
  of_member_declaration x = ind-MemberDeclaration D E F S N M P T
      (λ x y is. subst (λ (z : open_.Declarator-F Declarator Expr Field Specifier Enumerator MemberDeclaration
      Parameter TypeName). D (roll-Declarator z)) is (at_declarator y))
      (λ x y is. subst (λ (z : open_.Expr-F Declarator Expr Field Specifier Enumerator MemberDeclaration Parameter
      TypeName). E (roll-Expr z)) is (at_expr y))
      (λ x y is. subst (λ (z : open_.Field-F Declarator Expr Field Specifier Enumerator MemberDeclaration Parameter
      TypeName). F (roll-Field z)) is (at_field y))
      (λ x y is. subst (λ (z : open_.Specifier-F Declarator Expr Field Specifier Enumerator MemberDeclaration Parameter
      TypeName). S (roll-Specifier z)) is (at_specifier y))
      (λ x y is. subst (λ (z : open_.Enumerator-F Declarator Expr Field Specifier Enumerator MemberDeclaration
      Parameter TypeName). N (roll-Enumerator z)) is (at_enumerator y))
      (λ x y is. subst (λ (z : open_.MemberDeclaration-F Declarator Expr Field Specifier Enumerator MemberDeclaration
      Parameter TypeName). M (roll-MemberDeclaration z)) is (at_member y))
      (λ x y is. subst (λ (z : open_.Parameter-F Declarator Expr Field Specifier Enumerator MemberDeclaration Parameter
      TypeName). P (roll-Parameter z)) is (at_parameter y))
      (λ x y is. subst (λ (z : open_.TypeName-F Declarator Expr Field Specifier Enumerator MemberDeclaration Parameter
      TypeName). T (roll-TypeName z)) is (at_type_name y))
      x

  pub of_parameter : (x : Parameter) → P x
  of_parameter x = ind-Parameter D E F S N M P T
      (λ x y is. subst (λ (z : open_.Declarator-F Declarator Expr Field Specifier Enumerator MemberDeclaration
      Parameter TypeName). D (roll-Declarator z)) is (at_declarator y))
      (λ x y is. subst (λ (z : open_.Expr-F Declarator Expr Field Specifier Enumerator MemberDeclaration Parameter
      TypeName). E (roll-Expr z)) is (at_expr y))
      (λ x y is. subst (λ (z : open_.Field-F Declarator Expr Field Specifier Enumerator MemberDeclaration Parameter
      TypeName). F (roll-Field z)) is (at_field y))
      (λ x y is. subst (λ (z : open_.Specifier-F Declarator Expr Field Specifier Enumerator MemberDeclaration Parameter
      TypeName). S (roll-Specifier z)) is (at_specifier y))
      (λ x y is. subst (λ (z : open_.Enumerator-F Declarator Expr Field Specifier Enumerator MemberDeclaration
      Parameter TypeName). N (roll-Enumerator z)) is (at_enumerator y))
      (λ x y is. subst (λ (z : open_.MemberDeclaration-F Declarator Expr Field Specifier Enumerator MemberDeclaration
      Parameter TypeName). M (roll-MemberDeclaration z)) is (at_member y))
      (λ x y is. subst (λ (z : open_.Parameter-F Declarator Expr Field Specifier Enumerator MemberDeclaration Parameter
      TypeName). P (roll-Parameter z)) is (at_parameter y))
      (λ x y is. subst (λ (z : open_.TypeName-F Declarator Expr Field Specifier Enumerator MemberDeclaration Parameter
      TypeName). T (roll-TypeName z)) is (at_type_name y))
      x

  pub of_type_name : (x : TypeName) → T x
  of_type_name x = ind-TypeName D E F S N M P T
      (λ x y is. subst (λ (z : open_.Declarator-F Declarator Expr Field Specifier Enumerator MemberDeclaration
      Parameter TypeName). D (roll-Declarator z)) is (at_declarator y))
      (λ x y is. subst (λ (z : open_.Expr-F Declarator Expr Field Specifier Enumerator MemberDeclaration Parameter
      TypeName). E (roll-Expr z)) is (at_expr y))
      (λ x y is. subst (λ (z : open_.Field-F Declarator Expr Field Specifier Enumerator MemberDeclaration Parameter
      TypeName). F (roll-Field z)) is (at_field y))
      (λ x y is. subst (λ (z : open_.Specifier-F Declarator Expr Field Specifier Enumerator MemberDeclaration Parameter
      TypeName). S (roll-Specifier z)) is (at_specifier y))
      (λ x y is. subst (λ (z : open_.Enumerator-F Declarator Expr Field Specifier Enumerator MemberDeclaration
      Parameter TypeName). N (roll-Enumerator z)) is (at_enumerator y))
      (λ x y is. subst (λ (z : open_.MemberDeclaration-F Declarator Expr Field Specifier Enumerator MemberDeclaration
      Parameter TypeName). M (roll-MemberDeclaration z)) is (at_member y))
      (λ x y is. subst (λ (z : open_.Parameter-F Declarator Expr Field Specifier Enumerator MemberDeclaration Parameter
      TypeName). P (roll-Parameter z)) is (at_parameter y))
      (λ x y is. subst (λ (z : open_.TypeName-F Declarator Expr Field Specifier Enumerator MemberDeclaration Parameter
      TypeName). T (roll-TypeName z)) is (at_type_name y))
      x
