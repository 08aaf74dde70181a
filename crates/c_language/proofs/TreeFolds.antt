-- What a fold that is also handed the trees says of each kind of tree.
use Rattle.std.proofs.Common.{◌≡◌, ℕ, ℤ, List, [], ◌∷◌, Option, Some, None, Bool, refl, sym, ap, ◌∙◌}
use Rattle.std.specs.Prelude.{map, option_map}
use Rattle.c_language.specs.declared.token.IntegerConstant.{IntegerConstant}
use Rattle.c_language.specs.declared.expr.UnaryOperator.{UnaryOperator}
use Rattle.c_language.specs.declared.expr.PostfixOperator.{PostfixOperator}
use Rattle.c_language.specs.declared.expr.BinaryOperator.{BinaryOperator}
use Rattle.c_language.specs.declared.expr.StorageClass.{StorageClass}
use Rattle.c_language.specs.declared.expr.Qualifier.{Qualifier}
use Rattle.c_language.specs.declared.expr.TypeWord.{TypeWord}
use Rattle.c_language.specs.declared.expr.AggregateKind.{AggregateKind}
use Rattle.c_language.specs.declared.expr.ArrayWord.{ArrayWord}
use Rattle.c_language.specs.declared.expr.TagName.{TagName}
use Rattle.c_language.specs.declared.expr.Declarator.{Declarator}
use Rattle.c_language.specs.declared.expr.Expr.{Expr}
use Rattle.c_language.specs.declared.expr.Field.{Field}
use Rattle.c_language.specs.declared.expr.Specifier.{Specifier}
use Rattle.c_language.specs.declared.expr.Enumerator.{Enumerator}
use Rattle.c_language.specs.declared.expr.MemberDeclaration.{MemberDeclaration}
use Rattle.c_language.specs.declared.expr.Parameter.{Parameter}
use Rattle.c_language.specs.declared.expr.TypeName.{TypeName}
use Rattle.c_language.specs.declared.expr.Expr.TheVariants as expr
use Rattle.c_language.specs.declared.expr.Specifier.TheVariants as specifier
use Rattle.c_language.specs.declared.expr.Field.TheVariants as field
use Rattle.c_language.specs.declared.expr.Declarator.TheVariants as declarator
use Rattle.c_language.specs.declared.expr.Declarator.TheOpen as open_
use Rattle.c_language.specs.declared.expr.Expr.TheVariants.{
  rolls-Integer,
  rolls-Floating,
  rolls-Character,
  rolls-StringLiteral,
  rolls-FunctionName,
  rolls-Identifier,
  rolls-Parenthesized,
  rolls-Subscript,
  rolls-Call,
  rolls-Member,
  rolls-Arrow,
  rolls-Postfix,
  rolls-Unary,
  rolls-SizeofExpr,
  rolls-SizeofType,
  rolls-Cast,
  rolls-Binary,
  rolls-Conditional,
  rolls-Assign,
  rolls-Comma,
}
use Rattle.c_language.specs.declared.expr.Specifier.TheVariants.{
  rolls-Storage,
  rolls-Qualifier,
  rolls-Inline,
  rolls-Word,
  rolls-Typedef,
  rolls-Tag,
  rolls-Aggregate,
  rolls-EnumTag,
  rolls-Enumeration,
}
use Rattle.c_language.specs.declared.expr.Field.TheVariants.{rolls-Plain, rolls-Bits}
use Rattle.c_language.specs.declared.expr.Declarator.TheVariants.{
  rolls-Name,
  rolls-Omitted,
  rolls-Grouped,
  rolls-Pointer,
  rolls-Array,
  rolls-Function,
}
use Rattle.c_language.specs.Folds.{
  Carrier,
  TreeAlgebra,
  Beside,
  beside,
  fold_declarator,
  fold_expr,
  fold_field,
  fold_specifier,
  fold_enumerator,
  fold_member,
  fold_parameter,
  fold_type_name,
  tree_fold_declarator,
  tree_fold_expr,
  tree_fold_field,
  tree_fold_specifier,
  tree_fold_enumerator,
  tree_fold_member,
  tree_fold_parameter,
  tree_fold_type_name,
}
use Rattle.c_language.proofs.Folds.{
  Name,
  fold-Integer,
  fold-Floating,
  fold-Character,
  fold-StringLiteral,
  fold-FunctionName,
  fold-Identifier,
  fold-Parenthesized,
  fold-Subscript,
  fold-Call,
  fold-Member,
  fold-Arrow,
  fold-Postfix,
  fold-Unary,
  fold-SizeofExpr,
  fold-SizeofType,
  fold-Cast,
  fold-Binary,
  fold-Conditional,
  fold-Assign,
  fold-Comma,
  fold-Storage,
  fold-Qualifier,
  fold-Inline,
  fold-Word,
  fold-Typedef,
  fold-Tag,
  fold-Aggregate,
  fold-EnumTag,
  fold-Enumeration,
  fold-Plain,
  fold-Bits,
  fold-Name,
  fold-Omitted,
  fold-Grouped,
  fold-Pointer,
  fold-Array,
  fold-Function,
  fold-Enumerator,
  fold-MemberDeclaration,
  fold-Parameter,
  fold-TypeName,
}
use Rattle.c_language.proofs.Induction.{
  Each,
  Maybe,
  Steps,
  of_declarator,
  of_expr,
  of_field,
  of_specifier,
  of_enumerator,
  of_member_declaration,
  of_parameter,
  of_type_name,
}

-- ---- lists and options of trees

firsts : {A B : Type 0} (f : A → A × B) (xs : List A) → Each (λ x. (f x).0 ≡ x) xs → map (λ y. y.0) (map f xs) ≡ xs
firsts f [] is = refl
firsts f (x ∷ xs) is = ap (λ z. z ∷ map (λ y. y.0) (map f xs)) is.0 ∙ ap (λ z. x ∷ z) (firsts f xs is.1)

same : {A B : Type 0} (f g : A → B) → ((x : A) → f x ≡ g x) → (xs : List A) → map f xs ≡ map g xs
same f g is [] = refl
same f g is (x ∷ xs) = ap (λ z. z ∷ map f xs) (is x) ∙ ap (λ z. g x ∷ z) (same f g is xs)

same_option : {A B : Type 0} (f g : A → B) → ((x : A) → f x ≡ g x) → (x : Option A) → option_map f x ≡ option_map g x
same_option f g is None = refl
same_option f g is (Some x) = ap (λ z. Some z) (is x)

-- ---- the first of what the fold beside the trees gives is the tree

on_integer : {c : Carrier} (a : TreeAlgebra c) (at : ℕ) (constant : IntegerConstant) →
    (fold_expr (beside a) (expr.Integer at constant)).0 ≡ (expr.Integer at constant)
on_integer a at constant =
    ap (λ z. z.0) (fold-Integer (beside a) at constant)
    ∙ rolls-Integer at constant

on_floating : {c : Carrier} (a : TreeAlgebra c) (at : ℕ) →
    (fold_expr (beside a) (expr.Floating at)).0 ≡ (expr.Floating at)
on_floating a at =
    ap (λ z. z.0) (fold-Floating (beside a) at)
    ∙ rolls-Floating at

on_character : {c : Carrier} (a : TreeAlgebra c) (at : ℕ) (value : ℤ) →
    (fold_expr (beside a) (expr.Character at value)).0 ≡ (expr.Character at value)
on_character a at value =
    ap (λ z. z.0) (fold-Character (beside a) at value)
    ∙ rolls-Character at value

on_string_literal : {c : Carrier} (a : TreeAlgebra c) (at : ℕ) (pieces : List (List ℕ)) →
    (fold_expr (beside a) (expr.StringLiteral at pieces)).0 ≡ (expr.StringLiteral at pieces)
on_string_literal a at pieces =
    ap (λ z. z.0) (fold-StringLiteral (beside a) at pieces)
    ∙ rolls-StringLiteral at pieces

on_function_name : {c : Carrier} (a : TreeAlgebra c) (at : ℕ) →
    (fold_expr (beside a) (expr.FunctionName at)).0 ≡ (expr.FunctionName at)
on_function_name a at =
    ap (λ z. z.0) (fold-FunctionName (beside a) at)
    ∙ rolls-FunctionName at

on_identifier : {c : Carrier} (a : TreeAlgebra c) (at : ℕ) (name : Name) →
    (fold_expr (beside a) (expr.Identifier at name)).0 ≡ (expr.Identifier at name)
on_identifier a at name =
    ap (λ z. z.0) (fold-Identifier (beside a) at name)
    ∙ rolls-Identifier at name

on_parenthesized : {c : Carrier} (a : TreeAlgebra c) (at : ℕ) (inner : Expr) →
    (fold_expr (beside a) inner).0 ≡ inner →
    (fold_expr (beside a) (expr.Parenthesized at inner)).0 ≡ (expr.Parenthesized at inner)
on_parenthesized a at inner is_inner =
    ap (λ z. z.0) (fold-Parenthesized (beside a) at inner)
    ∙ rolls-Parenthesized at ((fold_expr (beside a) inner).0)
    ∙ ap (λ z. expr.Parenthesized at z) is_inner

on_subscript : {c : Carrier} (a : TreeAlgebra c) (at : ℕ) (array : Expr) (index : Expr) →
    (fold_expr (beside a) array).0 ≡ array →
    (fold_expr (beside a) index).0 ≡ index →
    (fold_expr (beside a) (expr.Subscript at array index)).0 ≡ (expr.Subscript at array index)
on_subscript a at array index is_array is_index =
    ap (λ z. z.0) (fold-Subscript (beside a) at array index)
    ∙ rolls-Subscript at ((fold_expr (beside a) array).0) ((fold_expr (beside a) index).0)
    ∙ ap (λ z. expr.Subscript at z ((fold_expr (beside a) index).0)) is_array
    ∙ ap (λ z. expr.Subscript at array z) is_index

on_call : {c : Carrier} (a : TreeAlgebra c) (at : ℕ) (callee : Expr) (arguments : List Expr) →
    (fold_expr (beside a) callee).0 ≡ callee →
    Each (λ z. (fold_expr (beside a) z).0 ≡ z) arguments →
    (fold_expr (beside a) (expr.Call at callee arguments)).0 ≡ (expr.Call at callee arguments)
on_call a at callee arguments is_callee is_arguments =
    ap (λ z. z.0) (fold-Call (beside a) at callee arguments)
    ∙ rolls-Call at ((fold_expr (beside a) callee).0) (map (λ y. y.0) (map (fold_expr (beside a)) arguments))
    ∙ ap (λ z. expr.Call at z (map (λ y. y.0) (map (fold_expr (beside a)) arguments))) is_callee
    ∙ ap (λ z. expr.Call at callee z) (firsts (fold_expr (beside a)) arguments is_arguments)

on_member : {c : Carrier} (a : TreeAlgebra c) (at : ℕ) (object : Expr) (member : Name) →
    (fold_expr (beside a) object).0 ≡ object →
    (fold_expr (beside a) (expr.Member at object member)).0 ≡ (expr.Member at object member)
on_member a at object member is_object =
    ap (λ z. z.0) (fold-Member (beside a) at object member)
    ∙ rolls-Member at ((fold_expr (beside a) object).0) member
    ∙ ap (λ z. expr.Member at z member) is_object

on_arrow : {c : Carrier} (a : TreeAlgebra c) (at : ℕ) (pointer : Expr) (member : Name) →
    (fold_expr (beside a) pointer).0 ≡ pointer →
    (fold_expr (beside a) (expr.Arrow at pointer member)).0 ≡ (expr.Arrow at pointer member)
on_arrow a at pointer member is_pointer =
    ap (λ z. z.0) (fold-Arrow (beside a) at pointer member)
    ∙ rolls-Arrow at ((fold_expr (beside a) pointer).0) member
    ∙ ap (λ z. expr.Arrow at z member) is_pointer

on_postfix : {c : Carrier} (a : TreeAlgebra c) (at : ℕ) (operator : PostfixOperator) (operand : Expr) →
    (fold_expr (beside a) operand).0 ≡ operand →
    (fold_expr (beside a) (expr.Postfix at operator operand)).0 ≡ (expr.Postfix at operator operand)
on_postfix a at operator operand is_operand =
    ap (λ z. z.0) (fold-Postfix (beside a) at operator operand)
    ∙ rolls-Postfix at operator ((fold_expr (beside a) operand).0)
    ∙ ap (λ z. expr.Postfix at operator z) is_operand

on_unary : {c : Carrier} (a : TreeAlgebra c) (at : ℕ) (operator : UnaryOperator) (operand : Expr) →
    (fold_expr (beside a) operand).0 ≡ operand →
    (fold_expr (beside a) (expr.Unary at operator operand)).0 ≡ (expr.Unary at operator operand)
on_unary a at operator operand is_operand =
    ap (λ z. z.0) (fold-Unary (beside a) at operator operand)
    ∙ rolls-Unary at operator ((fold_expr (beside a) operand).0)
    ∙ ap (λ z. expr.Unary at operator z) is_operand

on_sizeof_expr : {c : Carrier} (a : TreeAlgebra c) (at : ℕ) (operand : Expr) →
    (fold_expr (beside a) operand).0 ≡ operand →
    (fold_expr (beside a) (expr.SizeofExpr at operand)).0 ≡ (expr.SizeofExpr at operand)
on_sizeof_expr a at operand is_operand =
    ap (λ z. z.0) (fold-SizeofExpr (beside a) at operand)
    ∙ rolls-SizeofExpr at ((fold_expr (beside a) operand).0)
    ∙ ap (λ z. expr.SizeofExpr at z) is_operand

on_sizeof_type : {c : Carrier} (a : TreeAlgebra c) (at : ℕ) (type_name : TypeName) →
    (fold_type_name (beside a) type_name).0 ≡ type_name →
    (fold_expr (beside a) (expr.SizeofType at type_name)).0 ≡ (expr.SizeofType at type_name)
on_sizeof_type a at type_name is_type_name =
    ap (λ z. z.0) (fold-SizeofType (beside a) at type_name)
    ∙ rolls-SizeofType at ((fold_type_name (beside a) type_name).0)
    ∙ ap (λ z. expr.SizeofType at z) is_type_name

on_cast : {c : Carrier} (a : TreeAlgebra c) (at : ℕ) (type_name : TypeName) (operand : Expr) →
    (fold_type_name (beside a) type_name).0 ≡ type_name →
    (fold_expr (beside a) operand).0 ≡ operand →
    (fold_expr (beside a) (expr.Cast at type_name operand)).0 ≡ (expr.Cast at type_name operand)
on_cast a at type_name operand is_type_name is_operand =
    ap (λ z. z.0) (fold-Cast (beside a) at type_name operand)
    ∙ rolls-Cast at ((fold_type_name (beside a) type_name).0) ((fold_expr (beside a) operand).0)
    ∙ ap (λ z. expr.Cast at z ((fold_expr (beside a) operand).0)) is_type_name
    ∙ ap (λ z. expr.Cast at type_name z) is_operand

on_binary : {c : Carrier} (a : TreeAlgebra c) (at : ℕ) (operator : BinaryOperator) (left : Expr) (right : Expr) →
    (fold_expr (beside a) left).0 ≡ left →
    (fold_expr (beside a) right).0 ≡ right →
    (fold_expr (beside a) (expr.Binary at operator left right)).0 ≡ (expr.Binary at operator left right)
on_binary a at operator left right is_left is_right =
    ap (λ z. z.0) (fold-Binary (beside a) at operator left right)
    ∙ rolls-Binary at operator ((fold_expr (beside a) left).0) ((fold_expr (beside a) right).0)
    ∙ ap (λ z. expr.Binary at operator z ((fold_expr (beside a) right).0)) is_left
    ∙ ap (λ z. expr.Binary at operator left z) is_right

on_conditional : {c : Carrier} (a : TreeAlgebra c) (at : ℕ) (condition : Expr) (positive : Expr) (negative : Expr) →
    (fold_expr (beside a) condition).0 ≡ condition →
    (fold_expr (beside a) positive).0 ≡ positive →
    (fold_expr (beside a) negative).0 ≡ negative →
    (fold_expr (beside a) (expr.Conditional at condition positive negative)).0 ≡ (expr.Conditional at condition
    positive negative)
on_conditional a at condition positive negative is_condition is_positive is_negative =
    ap (λ z. z.0) (fold-Conditional (beside a) at condition positive negative)
    ∙ rolls-Conditional at ((fold_expr (beside a) condition).0) ((fold_expr (beside a) positive).0) ((fold_expr
    (beside a) negative).0)
    ∙ ap (λ z. expr.Conditional at z ((fold_expr (beside a) positive).0) ((fold_expr (beside a) negative).0))
    is_condition
    ∙ ap (λ z. expr.Conditional at condition z ((fold_expr (beside a) negative).0)) is_positive
    ∙ ap (λ z. expr.Conditional at condition positive z) is_negative

on_assign : {c : Carrier} (a : TreeAlgebra c) (at : ℕ) (operator : Option BinaryOperator) (target : Expr) (value :
    Expr) →
    (fold_expr (beside a) target).0 ≡ target →
    (fold_expr (beside a) value).0 ≡ value →
    (fold_expr (beside a) (expr.Assign at operator target value)).0 ≡ (expr.Assign at operator target value)
on_assign a at operator target value is_target is_value =
    ap (λ z. z.0) (fold-Assign (beside a) at operator target value)
    ∙ rolls-Assign at operator ((fold_expr (beside a) target).0) ((fold_expr (beside a) value).0)
    ∙ ap (λ z. expr.Assign at operator z ((fold_expr (beside a) value).0)) is_target
    ∙ ap (λ z. expr.Assign at operator target z) is_value

on_comma : {c : Carrier} (a : TreeAlgebra c) (at : ℕ) (left : Expr) (right : Expr) →
    (fold_expr (beside a) left).0 ≡ left →
    (fold_expr (beside a) right).0 ≡ right →
    (fold_expr (beside a) (expr.Comma at left right)).0 ≡ (expr.Comma at left right)
on_comma a at left right is_left is_right =
    ap (λ z. z.0) (fold-Comma (beside a) at left right)
    ∙ rolls-Comma at ((fold_expr (beside a) left).0) ((fold_expr (beside a) right).0)
    ∙ ap (λ z. expr.Comma at z ((fold_expr (beside a) right).0)) is_left
    ∙ ap (λ z. expr.Comma at left z) is_right

on_specifier_storage : {c : Carrier} (a : TreeAlgebra c) (at : ℕ) (class : StorageClass) →
    (fold_specifier (beside a) (specifier.Storage at class)).0 ≡ (specifier.Storage at class)
on_specifier_storage a at class =
    ap (λ z. z.0) (fold-Storage (beside a) at class)
    ∙ rolls-Storage at class

on_specifier_qualifier : {c : Carrier} (a : TreeAlgebra c) (at : ℕ) (qualifier : Qualifier) →
    (fold_specifier (beside a) (specifier.Qualifier at qualifier)).0 ≡ (specifier.Qualifier at qualifier)
on_specifier_qualifier a at qualifier =
    ap (λ z. z.0) (fold-Qualifier (beside a) at qualifier)
    ∙ rolls-Qualifier at qualifier

on_specifier_inline : {c : Carrier} (a : TreeAlgebra c) (at : ℕ) →
    (fold_specifier (beside a) (specifier.Inline at)).0 ≡ (specifier.Inline at)
on_specifier_inline a at =
    ap (λ z. z.0) (fold-Inline (beside a) at)
    ∙ rolls-Inline at

on_specifier_word : {c : Carrier} (a : TreeAlgebra c) (at : ℕ) (word : TypeWord) →
    (fold_specifier (beside a) (specifier.Word at word)).0 ≡ (specifier.Word at word)
on_specifier_word a at word =
    ap (λ z. z.0) (fold-Word (beside a) at word)
    ∙ rolls-Word at word

on_specifier_typedef : {c : Carrier} (a : TreeAlgebra c) (at : ℕ) (name : Name) →
    (fold_specifier (beside a) (specifier.Typedef at name)).0 ≡ (specifier.Typedef at name)
on_specifier_typedef a at name =
    ap (λ z. z.0) (fold-Typedef (beside a) at name)
    ∙ rolls-Typedef at name

on_specifier_tag : {c : Carrier} (a : TreeAlgebra c) (at : ℕ) (kind : AggregateKind) (tag : TagName) →
    (fold_specifier (beside a) (specifier.Tag at kind tag)).0 ≡ (specifier.Tag at kind tag)
on_specifier_tag a at kind tag =
    ap (λ z. z.0) (fold-Tag (beside a) at kind tag)
    ∙ rolls-Tag at kind tag

on_specifier_aggregate : {c : Carrier} (a : TreeAlgebra c) (at : ℕ) (kind : AggregateKind) (tag : Option TagName)
    (members : List MemberDeclaration) →
    Each (λ z. (fold_member (beside a) z).0 ≡ z) members →
    (fold_specifier (beside a) (specifier.Aggregate at kind tag members)).0 ≡ (specifier.Aggregate at kind tag
    members)
on_specifier_aggregate a at kind tag members is_members =
    ap (λ z. z.0) (fold-Aggregate (beside a) at kind tag members)
    ∙ rolls-Aggregate at kind tag (map (λ y. y.0) (map (fold_member (beside a)) members))
    ∙ ap (λ z. specifier.Aggregate at kind tag z) (firsts (fold_member (beside a)) members is_members)

on_specifier_enum_tag : {c : Carrier} (a : TreeAlgebra c) (at : ℕ) (tag : TagName) →
    (fold_specifier (beside a) (specifier.EnumTag at tag)).0 ≡ (specifier.EnumTag at tag)
on_specifier_enum_tag a at tag =
    ap (λ z. z.0) (fold-EnumTag (beside a) at tag)
    ∙ rolls-EnumTag at tag

on_specifier_enumeration : {c : Carrier} (a : TreeAlgebra c) (at : ℕ) (tag : Option TagName) (enumerators : List
    Enumerator) (trailing : Bool) →
    Each (λ z. (fold_enumerator (beside a) z).0 ≡ z) enumerators →
    (fold_specifier (beside a) (specifier.Enumeration at tag enumerators trailing)).0 ≡ (specifier.Enumeration at tag
    enumerators trailing)
on_specifier_enumeration a at tag enumerators trailing is_enumerators =
    ap (λ z. z.0) (fold-Enumeration (beside a) at tag enumerators trailing)
    ∙ rolls-Enumeration at tag (map (λ y. y.0) (map (fold_enumerator (beside a)) enumerators)) trailing
    ∙ ap (λ z. specifier.Enumeration at tag z trailing) (firsts (fold_enumerator (beside a)) enumerators
    is_enumerators)

on_field_plain : {c : Carrier} (a : TreeAlgebra c) (declarator : Declarator) →
    (fold_declarator (beside a) declarator).0 ≡ declarator →
    (fold_field (beside a) (field.Plain declarator)).0 ≡ (field.Plain declarator)
on_field_plain a declarator is_declarator =
    ap (λ z. z.0) (fold-Plain (beside a) declarator)
    ∙ rolls-Plain ((fold_declarator (beside a) declarator).0)
    ∙ ap (λ z. field.Plain z) is_declarator

on_field_bits : {c : Carrier} (a : TreeAlgebra c) (at : ℕ) (declarator : Option Declarator) (width : Expr) →
    Maybe (λ z. (fold_declarator (beside a) z).0 ≡ z) declarator →
    (fold_expr (beside a) width).0 ≡ width →
    (fold_field (beside a) (field.Bits at declarator width)).0 ≡ (field.Bits at declarator width)
on_field_bits a at None width is_declarator is_width =
    ap (λ z. z.0) (fold-Bits (beside a) at None width)
    ∙ rolls-Bits at None ((fold_expr (beside a) width).0)
    ∙ ap (λ z. field.Bits at None z) is_width
on_field_bits a at (Some it) width is_declarator is_width =
    ap (λ z. z.0) (fold-Bits (beside a) at (Some it) width)
    ∙ rolls-Bits at (Some (fold_declarator (beside a) it).0) ((fold_expr (beside a) width).0)
    ∙ ap (λ z. field.Bits at (Some z) ((fold_expr (beside a) width).0)) is_declarator
    ∙ ap (λ z. field.Bits at (Some it) z) is_width

on_declarator_name : {c : Carrier} (a : TreeAlgebra c) (at : ℕ) (name : Name) →
    (fold_declarator (beside a) (declarator.Name at name)).0 ≡ (declarator.Name at name)
on_declarator_name a at name =
    ap (λ z. z.0) (fold-Name (beside a) at name)
    ∙ rolls-Name at name

on_declarator_omitted : {c : Carrier} (a : TreeAlgebra c) →
    (fold_declarator (beside a) declarator.Omitted).0 ≡ declarator.Omitted
on_declarator_omitted a =
    ap (λ z. z.0) (fold-Omitted (beside a))
    ∙ rolls-Omitted

on_declarator_grouped : {c : Carrier} (a : TreeAlgebra c) (at : ℕ) (inner : Declarator) →
    (fold_declarator (beside a) inner).0 ≡ inner →
    (fold_declarator (beside a) (declarator.Grouped at inner)).0 ≡ (declarator.Grouped at inner)
on_declarator_grouped a at inner is_inner =
    ap (λ z. z.0) (fold-Grouped (beside a) at inner)
    ∙ rolls-Grouped at ((fold_declarator (beside a) inner).0)
    ∙ ap (λ z. declarator.Grouped at z) is_inner

on_declarator_pointer : {c : Carrier} (a : TreeAlgebra c) (at : ℕ) (qualifiers : List Qualifier) (inner : Declarator)
    →
    (fold_declarator (beside a) inner).0 ≡ inner →
    (fold_declarator (beside a) (declarator.Pointer at qualifiers inner)).0 ≡ (declarator.Pointer at qualifiers inner)
on_declarator_pointer a at qualifiers inner is_inner =
    ap (λ z. z.0) (fold-Pointer (beside a) at qualifiers inner)
    ∙ rolls-Pointer at qualifiers ((fold_declarator (beside a) inner).0)
    ∙ ap (λ z. declarator.Pointer at qualifiers z) is_inner

on_declarator_array : {c : Carrier} (a : TreeAlgebra c) (at : ℕ) (inner : Declarator) (words : List ArrayWord)
    (length' : Option Expr) →
    (fold_declarator (beside a) inner).0 ≡ inner →
    Maybe (λ z. (fold_expr (beside a) z).0 ≡ z) length' →
    (fold_declarator (beside a) (declarator.Array at inner words length')).0 ≡ (declarator.Array at inner words
    length')
on_declarator_array a at inner words None is_inner is_length =
    ap (λ z. z.0) (fold-Array (beside a) at inner words None)
    ∙ rolls-Array at ((fold_declarator (beside a) inner).0) words None
    ∙ ap (λ z. declarator.Array at z words None) is_inner
on_declarator_array a at inner words (Some it) is_inner is_length =
    ap (λ z. z.0) (fold-Array (beside a) at inner words (Some it))
    ∙ rolls-Array at ((fold_declarator (beside a) inner).0) words (Some (fold_expr (beside a) it).0)
    ∙ ap (λ z. declarator.Array at z words (Some (fold_expr (beside a) it).0)) is_inner
    ∙ ap (λ z. declarator.Array at inner words (Some z)) is_length

on_declarator_function : {c : Carrier} (a : TreeAlgebra c) (at : ℕ) (inner : Declarator) (parameters : List
    Parameter) (variadic : Bool) →
    (fold_declarator (beside a) inner).0 ≡ inner →
    Each (λ z. (fold_parameter (beside a) z).0 ≡ z) parameters →
    (fold_declarator (beside a) (declarator.Function at inner parameters variadic)).0 ≡ (declarator.Function at inner
    parameters variadic)
on_declarator_function a at inner parameters variadic is_inner is_parameters =
    ap (λ z. z.0) (fold-Function (beside a) at inner parameters variadic)
    ∙ rolls-Function at ((fold_declarator (beside a) inner).0) (map (λ y. y.0) (map (fold_parameter (beside a))
    parameters)) variadic
    ∙ ap (λ z. declarator.Function at z (map (λ y. y.0) (map (fold_parameter (beside a)) parameters)) variadic)
    is_inner
    ∙ ap (λ z. declarator.Function at inner z variadic) (firsts (fold_parameter (beside a)) parameters is_parameters)

on_type_name : {c : Carrier} (a : TreeAlgebra c) (x : TypeName) →
    Each (λ z. (fold_specifier (beside a) z).0 ≡ z) x.specifiers →
    (fold_declarator (beside a) x.declarator).0 ≡ x.declarator →
    (fold_type_name (beside a) x).0 ≡ x
on_type_name a x is_specifiers is_declarator =
    ap (λ z. z.0) (fold-TypeName (beside a) x)
    ∙ ap (λ z. record { specifiers = z; declarator = (fold_declarator (beside a) x.declarator).0 }) (firsts
    (fold_specifier (beside a)) x.specifiers is_specifiers)
    ∙ ap (λ z. record { specifiers = x.specifiers; declarator = z }) is_declarator

on_member_declaration : {c : Carrier} (a : TreeAlgebra c) (x : MemberDeclaration) →
    Each (λ z. (fold_specifier (beside a) z).0 ≡ z) x.specifiers →
    Each (λ z. (fold_field (beside a) z).0 ≡ z) x.fields →
    (fold_member (beside a) x).0 ≡ x
on_member_declaration a x is_specifiers is_fields =
    ap (λ z. z.0) (fold-MemberDeclaration (beside a) x)
    ∙ ap (λ z. record { specifiers = z; fields = (map (λ y. y.0) (map (fold_field (beside a)) x.fields)) }) (firsts
    (fold_specifier (beside a)) x.specifiers is_specifiers)
    ∙ ap (λ z. record { specifiers = x.specifiers; fields = z }) (firsts (fold_field (beside a)) x.fields is_fields)

on_parameter : {c : Carrier} (a : TreeAlgebra c) (x : Parameter) →
    Each (λ z. (fold_specifier (beside a) z).0 ≡ z) x.specifiers →
    (fold_declarator (beside a) x.declarator).0 ≡ x.declarator →
    (fold_parameter (beside a) x).0 ≡ x
on_parameter a x is_specifiers is_declarator =
    ap (λ z. z.0) (fold-Parameter (beside a) x)
    ∙ ap (λ z. record { specifiers = z; declarator = (fold_declarator (beside a) x.declarator).0 }) (firsts
    (fold_specifier (beside a)) x.specifiers is_specifiers)
    ∙ ap (λ z. record { specifiers = x.specifiers; declarator = z }) is_declarator

enumerator_from : {c : Carrier} (a : TreeAlgebra c) (at : ℕ) (name : Name) (value : Option Expr) →
    Maybe (λ z. (fold_expr (beside a) z).0 ≡ z) value →
    (fold_enumerator (beside a) (record { at = at; name = name; value = value })).0
    ≡ record { at = at; name = name; value = value }
enumerator_from a at name None is_value =
    ap (λ z. z.0) (fold-Enumerator (beside a) (record { at = at; name = name; value = None }))
enumerator_from a at name (Some it) is_value =
    ap (λ z. z.0) (fold-Enumerator (beside a) (record { at = at; name = name; value = Some it }))
    ∙ ap (λ z. record { at = at; name = name; value = Some z }) is_value

on_enumerator : {c : Carrier} (a : TreeAlgebra c) (x : Enumerator) →
    Maybe (λ z. (fold_expr (beside a) z).0 ≡ z) x.value →
    (fold_enumerator (beside a) x).0 ≡ x
on_enumerator a x is_value = enumerator_from a x.at x.name x.value is_value

steps : {c : Carrier} (a : TreeAlgebra c) →
    Steps (λ z. (fold_declarator (beside a) z).0 ≡ z) (λ z. (fold_expr (beside a) z).0 ≡ z) (λ z. (fold_field (beside
    a) z).0 ≡ z) (λ z. (fold_specifier (beside a) z).0 ≡ z) (λ z. (fold_enumerator (beside a) z).0 ≡ z) (λ z.
    (fold_member (beside a) z).0 ≡ z) (λ z. (fold_parameter (beside a) z).0 ≡ z) (λ z. (fold_type_name (beside a)
    z).0 ≡ z)
steps a = record {
  on_integer = on_integer a;
  on_floating = on_floating a;
  on_character = on_character a;
  on_string_literal = on_string_literal a;
  on_function_name = on_function_name a;
  on_identifier = on_identifier a;
  on_parenthesized = on_parenthesized a;
  on_subscript = on_subscript a;
  on_call = on_call a;
  on_member = on_member a;
  on_arrow = on_arrow a;
  on_postfix = on_postfix a;
  on_unary = on_unary a;
  on_sizeof_expr = on_sizeof_expr a;
  on_sizeof_type = on_sizeof_type a;
  on_cast = on_cast a;
  on_binary = on_binary a;
  on_conditional = on_conditional a;
  on_assign = on_assign a;
  on_comma = on_comma a;
  on_specifier_storage = on_specifier_storage a;
  on_specifier_qualifier = on_specifier_qualifier a;
  on_specifier_inline = on_specifier_inline a;
  on_specifier_word = on_specifier_word a;
  on_specifier_typedef = on_specifier_typedef a;
  on_specifier_tag = on_specifier_tag a;
  on_specifier_aggregate = on_specifier_aggregate a;
  on_specifier_enum_tag = on_specifier_enum_tag a;
  on_specifier_enumeration = on_specifier_enumeration a;
  on_field_plain = on_field_plain a;
  on_field_bits = on_field_bits a;
  on_declarator_name = on_declarator_name a;
  on_declarator_omitted = on_declarator_omitted a;
  on_declarator_grouped = on_declarator_grouped a;
  on_declarator_pointer = on_declarator_pointer a;
  on_declarator_array = on_declarator_array a;
  on_declarator_function = on_declarator_function a;
  on_type_name = on_type_name a;
  on_member_declaration = on_member_declaration a;
  on_enumerator = on_enumerator a;
  on_parameter = on_parameter a;
}

pub keeps_declarator : {c : Carrier} (a : TreeAlgebra c) (x : Declarator) → (fold_declarator (beside a) x).0 ≡ x
keeps_declarator a x =
    of_declarator (λ z. (fold_declarator (beside a) z).0 ≡ z) (λ z. (fold_expr (beside a) z).0 ≡ z) (λ z. (fold_field
    (beside a) z).0 ≡ z) (λ z. (fold_specifier (beside a) z).0 ≡ z) (λ z. (fold_enumerator (beside a) z).0 ≡ z)
    (λ z. (fold_member (beside a) z).0 ≡ z) (λ z. (fold_parameter (beside a) z).0 ≡ z) (λ z. (fold_type_name
    (beside a) z).0 ≡ z) (steps a) x

pub keeps_expr : {c : Carrier} (a : TreeAlgebra c) (x : Expr) → (fold_expr (beside a) x).0 ≡ x
keeps_expr a x =
    of_expr (λ z. (fold_declarator (beside a) z).0 ≡ z) (λ z. (fold_expr (beside a) z).0 ≡ z) (λ z. (fold_field
    (beside a) z).0 ≡ z) (λ z. (fold_specifier (beside a) z).0 ≡ z) (λ z. (fold_enumerator (beside a) z).0 ≡ z)
    (λ z. (fold_member (beside a) z).0 ≡ z) (λ z. (fold_parameter (beside a) z).0 ≡ z) (λ z. (fold_type_name
    (beside a) z).0 ≡ z) (steps a) x

pub keeps_field : {c : Carrier} (a : TreeAlgebra c) (x : Field) → (fold_field (beside a) x).0 ≡ x
keeps_field a x =
    of_field (λ z. (fold_declarator (beside a) z).0 ≡ z) (λ z. (fold_expr (beside a) z).0 ≡ z) (λ z. (fold_field
    (beside a) z).0 ≡ z) (λ z. (fold_specifier (beside a) z).0 ≡ z) (λ z. (fold_enumerator (beside a) z).0 ≡ z)
    (λ z. (fold_member (beside a) z).0 ≡ z) (λ z. (fold_parameter (beside a) z).0 ≡ z) (λ z. (fold_type_name
    (beside a) z).0 ≡ z) (steps a) x

pub keeps_specifier : {c : Carrier} (a : TreeAlgebra c) (x : Specifier) → (fold_specifier (beside a) x).0 ≡ x
keeps_specifier a x =
    of_specifier (λ z. (fold_declarator (beside a) z).0 ≡ z) (λ z. (fold_expr (beside a) z).0 ≡ z) (λ z. (fold_field
    (beside a) z).0 ≡ z) (λ z. (fold_specifier (beside a) z).0 ≡ z) (λ z. (fold_enumerator (beside a) z).0 ≡ z)
    (λ z. (fold_member (beside a) z).0 ≡ z) (λ z. (fold_parameter (beside a) z).0 ≡ z) (λ z. (fold_type_name
    (beside a) z).0 ≡ z) (steps a) x

pub keeps_enumerator : {c : Carrier} (a : TreeAlgebra c) (x : Enumerator) → (fold_enumerator (beside a) x).0 ≡ x
keeps_enumerator a x =
    of_enumerator (λ z. (fold_declarator (beside a) z).0 ≡ z) (λ z. (fold_expr (beside a) z).0 ≡ z) (λ z. (fold_field
    (beside a) z).0 ≡ z) (λ z. (fold_specifier (beside a) z).0 ≡ z) (λ z. (fold_enumerator (beside a) z).0 ≡ z)
    (λ z. (fold_member (beside a) z).0 ≡ z) (λ z. (fold_parameter (beside a) z).0 ≡ z) (λ z. (fold_type_name
    (beside a) z).0 ≡ z) (steps a) x

pub keeps_member : {c : Carrier} (a : TreeAlgebra c) (x : MemberDeclaration) → (fold_member (beside a) x).0 ≡ x
keeps_member a x =
    of_member_declaration (λ z. (fold_declarator (beside a) z).0 ≡ z) (λ z. (fold_expr (beside a) z).0 ≡ z) (λ z.
    (fold_field (beside a) z).0 ≡ z) (λ z. (fold_specifier (beside a) z).0 ≡ z) (λ z. (fold_enumerator (beside a)
    z).0 ≡ z) (λ z. (fold_member (beside a) z).0 ≡ z) (λ z. (fold_parameter (beside a) z).0 ≡ z) (λ z.
    (fold_type_name (beside a) z).0 ≡ z) (steps a) x

pub keeps_parameter : {c : Carrier} (a : TreeAlgebra c) (x : Parameter) → (fold_parameter (beside a) x).0 ≡ x
keeps_parameter a x =
    of_parameter (λ z. (fold_declarator (beside a) z).0 ≡ z) (λ z. (fold_expr (beside a) z).0 ≡ z) (λ z. (fold_field
    (beside a) z).0 ≡ z) (λ z. (fold_specifier (beside a) z).0 ≡ z) (λ z. (fold_enumerator (beside a) z).0 ≡ z)
    (λ z. (fold_member (beside a) z).0 ≡ z) (λ z. (fold_parameter (beside a) z).0 ≡ z) (λ z. (fold_type_name
    (beside a) z).0 ≡ z) (steps a) x

pub keeps_type_name : {c : Carrier} (a : TreeAlgebra c) (x : TypeName) → (fold_type_name (beside a) x).0 ≡ x
keeps_type_name a x =
    of_type_name (λ z. (fold_declarator (beside a) z).0 ≡ z) (λ z. (fold_expr (beside a) z).0 ≡ z) (λ z. (fold_field
    (beside a) z).0 ≡ z) (λ z. (fold_specifier (beside a) z).0 ≡ z) (λ z. (fold_enumerator (beside a) z).0 ≡ z)
    (λ z. (fold_member (beside a) z).0 ≡ z) (λ z. (fold_parameter (beside a) z).0 ≡ z) (λ z. (fold_type_name
    (beside a) z).0 ≡ z) (steps a) x

-- a tree beside what is said of it
abbrev pub with_declarator : {c : Carrier} → TreeAlgebra c → Declarator → Declarator × c.declarator
with_declarator a x = (x, tree_fold_declarator a x)

pub both_declarator : {c : Carrier} (a : TreeAlgebra c) (x : Declarator) →
    fold_declarator (beside a) x ≡ with_declarator a x
unfolding tree_fold_declarator
both_declarator a x = ap (λ z. (z, (fold_declarator (beside a) x).1)) (keeps_declarator a x)

abbrev pub with_expr : {c : Carrier} → TreeAlgebra c → Expr → Expr × c.expr
with_expr a x = (x, tree_fold_expr a x)

pub both_expr : {c : Carrier} (a : TreeAlgebra c) (x : Expr) →
    fold_expr (beside a) x ≡ with_expr a x
unfolding tree_fold_expr
both_expr a x = ap (λ z. (z, (fold_expr (beside a) x).1)) (keeps_expr a x)

abbrev pub with_field : {c : Carrier} → TreeAlgebra c → Field → Field × c.field
with_field a x = (x, tree_fold_field a x)

pub both_field : {c : Carrier} (a : TreeAlgebra c) (x : Field) →
    fold_field (beside a) x ≡ with_field a x
unfolding tree_fold_field
both_field a x = ap (λ z. (z, (fold_field (beside a) x).1)) (keeps_field a x)

abbrev pub with_specifier : {c : Carrier} → TreeAlgebra c → Specifier → Specifier × c.specifier
with_specifier a x = (x, tree_fold_specifier a x)

pub both_specifier : {c : Carrier} (a : TreeAlgebra c) (x : Specifier) →
    fold_specifier (beside a) x ≡ with_specifier a x
unfolding tree_fold_specifier
both_specifier a x = ap (λ z. (z, (fold_specifier (beside a) x).1)) (keeps_specifier a x)

abbrev pub with_enumerator : {c : Carrier} → TreeAlgebra c → Enumerator → Enumerator × c.enumerator
with_enumerator a x = (x, tree_fold_enumerator a x)

pub both_enumerator : {c : Carrier} (a : TreeAlgebra c) (x : Enumerator) →
    fold_enumerator (beside a) x ≡ with_enumerator a x
unfolding tree_fold_enumerator
both_enumerator a x = ap (λ z. (z, (fold_enumerator (beside a) x).1)) (keeps_enumerator a x)

abbrev pub with_member : {c : Carrier} → TreeAlgebra c → MemberDeclaration → MemberDeclaration × c.member
with_member a x = (x, tree_fold_member a x)

pub both_member : {c : Carrier} (a : TreeAlgebra c) (x : MemberDeclaration) →
    fold_member (beside a) x ≡ with_member a x
unfolding tree_fold_member
both_member a x = ap (λ z. (z, (fold_member (beside a) x).1)) (keeps_member a x)

abbrev pub with_parameter : {c : Carrier} → TreeAlgebra c → Parameter → Parameter × c.parameter
with_parameter a x = (x, tree_fold_parameter a x)

pub both_parameter : {c : Carrier} (a : TreeAlgebra c) (x : Parameter) →
    fold_parameter (beside a) x ≡ with_parameter a x
unfolding tree_fold_parameter
both_parameter a x = ap (λ z. (z, (fold_parameter (beside a) x).1)) (keeps_parameter a x)

abbrev pub with_type_name : {c : Carrier} → TreeAlgebra c → TypeName → TypeName × c.type_name
with_type_name a x = (x, tree_fold_type_name a x)

pub both_type_name : {c : Carrier} (a : TreeAlgebra c) (x : TypeName) →
    fold_type_name (beside a) x ≡ with_type_name a x
unfolding tree_fold_type_name
both_type_name a x = ap (λ z. (z, (fold_type_name (beside a) x).1)) (keeps_type_name a x)

-- ---- expressions

pub tree-fold-Integer : {c : Carrier} (a : TreeAlgebra c) (at : ℕ) (constant : IntegerConstant) →
    tree_fold_expr a (expr.Integer at constant) ≡
    a.expr (open_.Integer at constant)
unfolding tree_fold_expr
tree-fold-Integer a at constant =
    ap (λ z. z.1) (fold-Integer (beside a) at constant)

pub tree-fold-Floating : {c : Carrier} (a : TreeAlgebra c) (at : ℕ) →
    tree_fold_expr a (expr.Floating at) ≡
    a.expr (open_.Floating at)
unfolding tree_fold_expr
tree-fold-Floating a at =
    ap (λ z. z.1) (fold-Floating (beside a) at)

pub tree-fold-Character : {c : Carrier} (a : TreeAlgebra c) (at : ℕ) (value : ℤ) →
    tree_fold_expr a (expr.Character at value) ≡
    a.expr (open_.Character at value)
unfolding tree_fold_expr
tree-fold-Character a at value =
    ap (λ z. z.1) (fold-Character (beside a) at value)

pub tree-fold-StringLiteral : {c : Carrier} (a : TreeAlgebra c) (at : ℕ) (pieces : List (List ℕ)) →
    tree_fold_expr a (expr.StringLiteral at pieces) ≡
    a.expr (open_.StringLiteral at pieces)
unfolding tree_fold_expr
tree-fold-StringLiteral a at pieces =
    ap (λ z. z.1) (fold-StringLiteral (beside a) at pieces)

pub tree-fold-FunctionName : {c : Carrier} (a : TreeAlgebra c) (at : ℕ) →
    tree_fold_expr a (expr.FunctionName at) ≡
    a.expr (open_.FunctionName at)
unfolding tree_fold_expr
tree-fold-FunctionName a at =
    ap (λ z. z.1) (fold-FunctionName (beside a) at)

pub tree-fold-Identifier : {c : Carrier} (a : TreeAlgebra c) (at : ℕ) (name : Name) →
    tree_fold_expr a (expr.Identifier at name) ≡
    a.expr (open_.Identifier at name)
unfolding tree_fold_expr
tree-fold-Identifier a at name =
    ap (λ z. z.1) (fold-Identifier (beside a) at name)

pub tree-fold-Parenthesized : {c : Carrier} (a : TreeAlgebra c) (at : ℕ) (inner : Expr) →
    tree_fold_expr a (expr.Parenthesized at inner) ≡
    a.expr (open_.Parenthesized at (with_expr a inner))
unfolding tree_fold_expr
tree-fold-Parenthesized a at inner =
    ap (λ z. z.1) (fold-Parenthesized (beside a) at inner)
    ∙ ap (λ z. a.expr (open_.Parenthesized at z)) (both_expr a inner)

pub tree-fold-Subscript : {c : Carrier} (a : TreeAlgebra c) (at : ℕ) (array : Expr) (index : Expr) →
    tree_fold_expr a (expr.Subscript at array index) ≡
    a.expr (open_.Subscript at (with_expr a array) (with_expr a index))
unfolding tree_fold_expr
tree-fold-Subscript a at array index =
    ap (λ z. z.1) (fold-Subscript (beside a) at array index)
    ∙ ap (λ z. a.expr (open_.Subscript at z (fold_expr (beside a) index))) (both_expr a array)
    ∙ ap (λ z. a.expr (open_.Subscript at (with_expr a array) z)) (both_expr a index)

pub tree-fold-Call : {c : Carrier} (a : TreeAlgebra c) (at : ℕ) (callee : Expr) (arguments : List Expr) →
    tree_fold_expr a (expr.Call at callee arguments) ≡
    a.expr (open_.Call at (with_expr a callee) (map (with_expr a) arguments))
unfolding tree_fold_expr
tree-fold-Call a at callee arguments =
    ap (λ z. z.1) (fold-Call (beside a) at callee arguments)
    ∙ ap (λ z. a.expr (open_.Call at z (map (fold_expr (beside a)) arguments))) (both_expr a callee)
    ∙ ap (λ z. a.expr (open_.Call at (with_expr a callee) z)) (same (fold_expr (beside a)) (with_expr a) (both_expr
    a) arguments)

pub tree-fold-Member : {c : Carrier} (a : TreeAlgebra c) (at : ℕ) (object : Expr) (member : Name) →
    tree_fold_expr a (expr.Member at object member) ≡
    a.expr (open_.Member at (with_expr a object) member)
unfolding tree_fold_expr
tree-fold-Member a at object member =
    ap (λ z. z.1) (fold-Member (beside a) at object member)
    ∙ ap (λ z. a.expr (open_.Member at z member)) (both_expr a object)

pub tree-fold-Arrow : {c : Carrier} (a : TreeAlgebra c) (at : ℕ) (pointer : Expr) (member : Name) →
    tree_fold_expr a (expr.Arrow at pointer member) ≡
    a.expr (open_.Arrow at (with_expr a pointer) member)
unfolding tree_fold_expr
tree-fold-Arrow a at pointer member =
    ap (λ z. z.1) (fold-Arrow (beside a) at pointer member)
    ∙ ap (λ z. a.expr (open_.Arrow at z member)) (both_expr a pointer)

pub tree-fold-Postfix : {c : Carrier} (a : TreeAlgebra c) (at : ℕ) (operator : PostfixOperator) (operand : Expr) →
    tree_fold_expr a (expr.Postfix at operator operand) ≡
    a.expr (open_.Postfix at operator (with_expr a operand))
unfolding tree_fold_expr
tree-fold-Postfix a at operator operand =
    ap (λ z. z.1) (fold-Postfix (beside a) at operator operand)
    ∙ ap (λ z. a.expr (open_.Postfix at operator z)) (both_expr a operand)

pub tree-fold-Unary : {c : Carrier} (a : TreeAlgebra c) (at : ℕ) (operator : UnaryOperator) (operand : Expr) →
    tree_fold_expr a (expr.Unary at operator operand) ≡
    a.expr (open_.Unary at operator (with_expr a operand))
unfolding tree_fold_expr
tree-fold-Unary a at operator operand =
    ap (λ z. z.1) (fold-Unary (beside a) at operator operand)
    ∙ ap (λ z. a.expr (open_.Unary at operator z)) (both_expr a operand)

pub tree-fold-SizeofExpr : {c : Carrier} (a : TreeAlgebra c) (at : ℕ) (operand : Expr) →
    tree_fold_expr a (expr.SizeofExpr at operand) ≡
    a.expr (open_.SizeofExpr at (with_expr a operand))
unfolding tree_fold_expr
tree-fold-SizeofExpr a at operand =
    ap (λ z. z.1) (fold-SizeofExpr (beside a) at operand)
    ∙ ap (λ z. a.expr (open_.SizeofExpr at z)) (both_expr a operand)

pub tree-fold-SizeofType : {c : Carrier} (a : TreeAlgebra c) (at : ℕ) (type_name : TypeName) →
    tree_fold_expr a (expr.SizeofType at type_name) ≡
    a.expr (open_.SizeofType at (with_type_name a type_name))
unfolding tree_fold_expr
tree-fold-SizeofType a at type_name =
    ap (λ z. z.1) (fold-SizeofType (beside a) at type_name)
    ∙ ap (λ z. a.expr (open_.SizeofType at z)) (both_type_name a type_name)

pub tree-fold-Cast : {c : Carrier} (a : TreeAlgebra c) (at : ℕ) (type_name : TypeName) (operand : Expr) →
    tree_fold_expr a (expr.Cast at type_name operand) ≡
    a.expr (open_.Cast at (with_type_name a type_name) (with_expr a operand))
unfolding tree_fold_expr
tree-fold-Cast a at type_name operand =
    ap (λ z. z.1) (fold-Cast (beside a) at type_name operand)
    ∙ ap (λ z. a.expr (open_.Cast at z (fold_expr (beside a) operand))) (both_type_name a type_name)
    ∙ ap (λ z. a.expr (open_.Cast at (with_type_name a type_name) z)) (both_expr a operand)

pub tree-fold-Binary : {c : Carrier} (a : TreeAlgebra c) (at : ℕ) (operator : BinaryOperator) (left : Expr) (right :
    Expr) →
    tree_fold_expr a (expr.Binary at operator left right) ≡
    a.expr (open_.Binary at operator (with_expr a left) (with_expr a right))
unfolding tree_fold_expr
tree-fold-Binary a at operator left right =
    ap (λ z. z.1) (fold-Binary (beside a) at operator left right)
    ∙ ap (λ z. a.expr (open_.Binary at operator z (fold_expr (beside a) right))) (both_expr a left)
    ∙ ap (λ z. a.expr (open_.Binary at operator (with_expr a left) z)) (both_expr a right)

pub tree-fold-Conditional : {c : Carrier} (a : TreeAlgebra c) (at : ℕ) (condition : Expr) (positive : Expr) (negative
    : Expr) →
    tree_fold_expr a (expr.Conditional at condition positive negative) ≡
    a.expr (open_.Conditional at (with_expr a condition) (with_expr a positive) (with_expr a negative))
unfolding tree_fold_expr
tree-fold-Conditional a at condition positive negative =
    ap (λ z. z.1) (fold-Conditional (beside a) at condition positive negative)
    ∙ ap (λ z. a.expr (open_.Conditional at z (fold_expr (beside a) positive) (fold_expr (beside a) negative)))
    (both_expr a condition)
    ∙ ap (λ z. a.expr (open_.Conditional at (with_expr a condition) z (fold_expr (beside a) negative))) (both_expr a
    positive)
    ∙ ap (λ z. a.expr (open_.Conditional at (with_expr a condition) (with_expr a positive) z)) (both_expr a negative)

pub tree-fold-Assign : {c : Carrier} (a : TreeAlgebra c) (at : ℕ) (operator : Option BinaryOperator) (target : Expr)
    (value : Expr) →
    tree_fold_expr a (expr.Assign at operator target value) ≡
    a.expr (open_.Assign at operator (with_expr a target) (with_expr a value))
unfolding tree_fold_expr
tree-fold-Assign a at operator target value =
    ap (λ z. z.1) (fold-Assign (beside a) at operator target value)
    ∙ ap (λ z. a.expr (open_.Assign at operator z (fold_expr (beside a) value))) (both_expr a target)
    ∙ ap (λ z. a.expr (open_.Assign at operator (with_expr a target) z)) (both_expr a value)

pub tree-fold-Comma : {c : Carrier} (a : TreeAlgebra c) (at : ℕ) (left : Expr) (right : Expr) →
    tree_fold_expr a (expr.Comma at left right) ≡
    a.expr (open_.Comma at (with_expr a left) (with_expr a right))
unfolding tree_fold_expr
tree-fold-Comma a at left right =
    ap (λ z. z.1) (fold-Comma (beside a) at left right)
    ∙ ap (λ z. a.expr (open_.Comma at z (fold_expr (beside a) right))) (both_expr a left)
    ∙ ap (λ z. a.expr (open_.Comma at (with_expr a left) z)) (both_expr a right)

-- ---- declarators

pub tree-fold-Name : {c : Carrier} (a : TreeAlgebra c) (at : ℕ) (name : Name) →
    tree_fold_declarator a (declarator.Name at name) ≡
    a.declarator (open_.Name at name)
unfolding tree_fold_declarator
tree-fold-Name a at name =
    ap (λ z. z.1) (fold-Name (beside a) at name)

pub tree-fold-Omitted : {c : Carrier} (a : TreeAlgebra c) →
    tree_fold_declarator a declarator.Omitted ≡
    a.declarator open_.Omitted
unfolding tree_fold_declarator
tree-fold-Omitted a =
    ap (λ z. z.1) (fold-Omitted (beside a))

pub tree-fold-Grouped : {c : Carrier} (a : TreeAlgebra c) (at : ℕ) (inner : Declarator) →
    tree_fold_declarator a (declarator.Grouped at inner) ≡
    a.declarator (open_.Grouped at (with_declarator a inner))
unfolding tree_fold_declarator
tree-fold-Grouped a at inner =
    ap (λ z. z.1) (fold-Grouped (beside a) at inner)
    ∙ ap (λ z. a.declarator (open_.Grouped at z)) (both_declarator a inner)

pub tree-fold-Pointer : {c : Carrier} (a : TreeAlgebra c) (at : ℕ) (qualifiers : List Qualifier) (inner : Declarator)
    →
    tree_fold_declarator a (declarator.Pointer at qualifiers inner) ≡
    a.declarator (open_.Pointer at qualifiers (with_declarator a inner))
unfolding tree_fold_declarator
tree-fold-Pointer a at qualifiers inner =
    ap (λ z. z.1) (fold-Pointer (beside a) at qualifiers inner)
    ∙ ap (λ z. a.declarator (open_.Pointer at qualifiers z)) (both_declarator a inner)

pub tree-fold-Array : {c : Carrier} (a : TreeAlgebra c) (at : ℕ) (inner : Declarator) (words : List ArrayWord)
    (length' : Option Expr) →
    tree_fold_declarator a (declarator.Array at inner words length') ≡
    a.declarator (open_.Array at (with_declarator a inner) words (option_map (with_expr a) length'))
unfolding tree_fold_declarator
tree-fold-Array a at inner words length' =
    ap (λ z. z.1) (fold-Array (beside a) at inner words length')
    ∙ ap (λ z. a.declarator (open_.Array at z words (option_map (fold_expr (beside a)) length'))) (both_declarator a
    inner)
    ∙ ap (λ z. a.declarator (open_.Array at (with_declarator a inner) words z)) (same_option (fold_expr (beside a))
    (with_expr a) (both_expr a) length')

pub tree-fold-Function : {c : Carrier} (a : TreeAlgebra c) (at : ℕ) (inner : Declarator) (parameters : List
    Parameter) (variadic : Bool) →
    tree_fold_declarator a (declarator.Function at inner parameters variadic) ≡
    a.declarator (open_.Function at (with_declarator a inner) (map (with_parameter a) parameters) variadic)
unfolding tree_fold_declarator
tree-fold-Function a at inner parameters variadic =
    ap (λ z. z.1) (fold-Function (beside a) at inner parameters variadic)
    ∙ ap (λ z. a.declarator (open_.Function at z (map (fold_parameter (beside a)) parameters) variadic))
    (both_declarator a inner)
    ∙ ap (λ z. a.declarator (open_.Function at (with_declarator a inner) z variadic)) (same (fold_parameter (beside
    a)) (with_parameter a) (both_parameter a) parameters)

-- ---- specifiers

pub tree-fold-Storage : {c : Carrier} (a : TreeAlgebra c) (at : ℕ) (class : StorageClass) →
    tree_fold_specifier a (specifier.Storage at class) ≡
    a.specifier (open_.Storage at class)
unfolding tree_fold_specifier
tree-fold-Storage a at class =
    ap (λ z. z.1) (fold-Storage (beside a) at class)

pub tree-fold-Qualifier : {c : Carrier} (a : TreeAlgebra c) (at : ℕ) (qualifier : Qualifier) →
    tree_fold_specifier a (specifier.Qualifier at qualifier) ≡
    a.specifier (open_.Qualifier at qualifier)
unfolding tree_fold_specifier
tree-fold-Qualifier a at qualifier =
    ap (λ z. z.1) (fold-Qualifier (beside a) at qualifier)

pub tree-fold-Inline : {c : Carrier} (a : TreeAlgebra c) (at : ℕ) →
    tree_fold_specifier a (specifier.Inline at) ≡
    a.specifier (open_.Inline at)
unfolding tree_fold_specifier
tree-fold-Inline a at =
    ap (λ z. z.1) (fold-Inline (beside a) at)

pub tree-fold-Word : {c : Carrier} (a : TreeAlgebra c) (at : ℕ) (word : TypeWord) →
    tree_fold_specifier a (specifier.Word at word) ≡
    a.specifier (open_.Word at word)
unfolding tree_fold_specifier
tree-fold-Word a at word =
    ap (λ z. z.1) (fold-Word (beside a) at word)

pub tree-fold-Typedef : {c : Carrier} (a : TreeAlgebra c) (at : ℕ) (name : Name) →
    tree_fold_specifier a (specifier.Typedef at name) ≡
    a.specifier (open_.Typedef at name)
unfolding tree_fold_specifier
tree-fold-Typedef a at name =
    ap (λ z. z.1) (fold-Typedef (beside a) at name)

pub tree-fold-Tag : {c : Carrier} (a : TreeAlgebra c) (at : ℕ) (kind : AggregateKind) (tag : TagName) →
    tree_fold_specifier a (specifier.Tag at kind tag) ≡
    a.specifier (open_.Tag at kind tag)
unfolding tree_fold_specifier
tree-fold-Tag a at kind tag =
    ap (λ z. z.1) (fold-Tag (beside a) at kind tag)

pub tree-fold-Aggregate : {c : Carrier} (a : TreeAlgebra c) (at : ℕ) (kind : AggregateKind) (tag : Option TagName)
    (members : List MemberDeclaration) →
    tree_fold_specifier a (specifier.Aggregate at kind tag members) ≡
    a.specifier (open_.Aggregate at kind tag (map (with_member a) members))
unfolding tree_fold_specifier
tree-fold-Aggregate a at kind tag members =
    ap (λ z. z.1) (fold-Aggregate (beside a) at kind tag members)
    ∙ ap (λ z. a.specifier (open_.Aggregate at kind tag z)) (same (fold_member (beside a)) (with_member a)
    (both_member a) members)

pub tree-fold-EnumTag : {c : Carrier} (a : TreeAlgebra c) (at : ℕ) (tag : TagName) →
    tree_fold_specifier a (specifier.EnumTag at tag) ≡
    a.specifier (open_.EnumTag at tag)
unfolding tree_fold_specifier
tree-fold-EnumTag a at tag =
    ap (λ z. z.1) (fold-EnumTag (beside a) at tag)

pub tree-fold-Enumeration : {c : Carrier} (a : TreeAlgebra c) (at : ℕ) (tag : Option TagName) (enumerators : List
    Enumerator) (trailing : Bool) →
    tree_fold_specifier a (specifier.Enumeration at tag enumerators trailing) ≡
    a.specifier (open_.Enumeration at tag (map (with_enumerator a) enumerators) trailing)
unfolding tree_fold_specifier
tree-fold-Enumeration a at tag enumerators trailing =
    ap (λ z. z.1) (fold-Enumeration (beside a) at tag enumerators trailing)
    ∙ ap (λ z. a.specifier (open_.Enumeration at tag z trailing)) (same (fold_enumerator (beside a)) (with_enumerator
    a) (both_enumerator a) enumerators)

-- ---- fields

pub tree-fold-Plain : {c : Carrier} (a : TreeAlgebra c) (declarator : Declarator) →
    tree_fold_field a (field.Plain declarator) ≡
    a.field (open_.Plain (with_declarator a declarator))
unfolding tree_fold_field
tree-fold-Plain a declarator =
    ap (λ z. z.1) (fold-Plain (beside a) declarator)
    ∙ ap (λ z. a.field (open_.Plain z)) (both_declarator a declarator)

pub tree-fold-Bits : {c : Carrier} (a : TreeAlgebra c) (at : ℕ) (declarator : Option Declarator) (width : Expr) →
    tree_fold_field a (field.Bits at declarator width) ≡
    a.field (open_.Bits at (option_map (with_declarator a) declarator) (with_expr a width))
unfolding tree_fold_field
tree-fold-Bits a at declarator width =
    ap (λ z. z.1) (fold-Bits (beside a) at declarator width)
    ∙ ap (λ z. a.field (open_.Bits at z (fold_expr (beside a) width))) (same_option (fold_declarator (beside a))
    (with_declarator a) (both_declarator a) declarator)
    ∙ ap (λ z. a.field (open_.Bits at (option_map (with_declarator a) declarator) z)) (both_expr a width)

-- ---- enumerators, member declarations, parameters and type names

pub tree-fold-Enumerator : {c : Carrier} (a : TreeAlgebra c) (x : Enumerator) →
    tree_fold_enumerator a x ≡
    a.enumerator (record { at = x.at; name = x.name; value = (option_map (with_expr a) x.value) })
unfolding tree_fold_enumerator
tree-fold-Enumerator a x =
    ap (λ z. z.1) (fold-Enumerator (beside a) x)
    ∙ ap (λ z. a.enumerator (record { at = x.at; name = x.name; value = z })) (same_option (fold_expr (beside a))
    (with_expr a) (both_expr a) x.value)

pub tree-fold-MemberDeclaration : {c : Carrier} (a : TreeAlgebra c) (x : MemberDeclaration) →
    tree_fold_member a x ≡
    a.member (record { specifiers = (map (with_specifier a) x.specifiers); fields = (map (with_field a) x.fields) })
unfolding tree_fold_member
tree-fold-MemberDeclaration a x =
    ap (λ z. z.1) (fold-MemberDeclaration (beside a) x)
    ∙ ap (λ z. a.member (record { specifiers = z; fields = (map (fold_field (beside a)) x.fields) })) (same
    (fold_specifier (beside a)) (with_specifier a) (both_specifier a) x.specifiers)
    ∙ ap (λ z. a.member (record { specifiers = (map (with_specifier a) x.specifiers); fields = z })) (same
    (fold_field (beside a)) (with_field a) (both_field a) x.fields)

pub tree-fold-Parameter : {c : Carrier} (a : TreeAlgebra c) (x : Parameter) →
    tree_fold_parameter a x ≡
    a.parameter (record {
      specifiers = (map (with_specifier a) x.specifiers);
      declarator = (with_declarator a
          x.declarator);
    })
unfolding tree_fold_parameter
tree-fold-Parameter a x =
    ap (λ z. z.1) (fold-Parameter (beside a) x)
    ∙ ap (λ z. a.parameter (record { specifiers = z; declarator = (fold_declarator (beside a) x.declarator) })) (same
    (fold_specifier (beside a)) (with_specifier a) (both_specifier a) x.specifiers)
    ∙ ap (λ z. a.parameter (record { specifiers = (map (with_specifier a) x.specifiers); declarator = z }))
    (both_declarator a x.declarator)

pub tree-fold-TypeName : {c : Carrier} (a : TreeAlgebra c) (x : TypeName) →
    tree_fold_type_name a x ≡
    a.type_name (record {
      specifiers = (map (with_specifier a) x.specifiers);
      declarator = (with_declarator a
          x.declarator);
    })
unfolding tree_fold_type_name
tree-fold-TypeName a x =
    ap (λ z. z.1) (fold-TypeName (beside a) x)
    ∙ ap (λ z. a.type_name (record { specifiers = z; declarator = (fold_declarator (beside a) x.declarator) })) (same
    (fold_specifier (beside a)) (with_specifier a) (both_specifier a) x.specifiers)
    ∙ ap (λ z. a.type_name (record { specifiers = (map (with_specifier a) x.specifiers); declarator = z }))
    (both_declarator a x.declarator)
