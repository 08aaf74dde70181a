use Rattle.std.proofs.Common.{◌≡◌, pos, List, Option, Some, [], map, refl, sym, ap, ◌∙◌}
use Rattle.std.proofs.lemmas.Result.{IfOk-weaker, on_ok_weaker}
use Rattle.c_language.specs.declared.expr.Enumerator.{Enumerator}
use Rattle.c_language.specs.declared.expr.Field.{Field}
use Rattle.c_language.specs.declared.expr.MemberDeclaration.{MemberDeclaration}
use Rattle.c_language.specs.declared.expr.Parameter.{Parameter}
use Rattle.c_language.specs.declared.expr.Specifier.{Specifier}
use Rattle.c_language.specs.declared.expr.Expr.{Expr}
use Rattle.c_language.specs.Scopes.{Name, look_up, enter}
use Rattle.c_language.specs.Typing as spec
use Rattle.c_language.specs.Typing.{typed_in}
use Rattle.c_language.specs.Declares as spec_
use Rattle.c_language.specs.Declares.{named, none_laid, none_listed, form_of}
use Rattle.c_language.specs.Trees.{
  Through,
  through,
  through_one,
  typed,
  declarator_says,
  specifier_says,
  field_says,
  enumerator_says,
  member_says,
  parameter_says,
}
use Rattle.c_declares.specs.declared.enumerations.Counting.{Counting}
use Rattle.c_declares.specs.declared.members.Laid.{Laid}
use Rattle.c_declares.specs.declared.parameters.Listed.{Listed}
use Rattle.c_declares.specs.declared.said.Said.{Said}
use Rattle.c_declares.specs.Views.{said_in, formed_in, laid_in, counting_in, listed_in}
use Rattle.c_typing.specs.Parts.{behind}
use Rattle.plain_data.proofs.Tried as tried
use Rattle.c_typing.proofs.Declares as parts
use Rattle.c_typing.proofs.Says as says
use Rattle.c_typing.proofs.trees.+typing.Goals as goal

pub typed-returns-in-Integer : goal.typed-returns-in-Integer
typed-returns-in-Integer t c =
    IfOk-weaker c.integer_constant.result (λ z. z ≡ spec.integer_told c.in-Integer.at c.in-Integer.constant) _ (λ z said. says.on-Integer _ _ c.in-Integer.is said)
    c.integer_constant.ensures

pub typed-returns-in-Floating : goal.typed-returns-in-Floating
typed-returns-in-Floating t c =
    IfOk-weaker c.floating_constant.result (λ z. z ≡ spec.floating_told c.in-Floating.at) _ (λ z said. says.on-Floating _ c.in-Floating.is said)
    c.floating_constant.ensures

pub typed-returns-in-Character : goal.typed-returns-in-Character
typed-returns-in-Character t c =
    IfOk-weaker c.character_constant.result _ _ (λ z said. says.on-Character _ _ c.in-Character.is said)
    c.character_constant.ensures

pub typed-returns-in-StringLiteral : goal.typed-returns-in-StringLiteral
typed-returns-in-StringLiteral t c =
    IfOk-weaker c.string_literal.result
    (λ z. z ≡ spec.node c.in-StringLiteral.at (spec.literal_shown c.args.scope.now.tables c.as_slice.result.now) [])
    _
    (λ z said. says.on-StringLiteral _ _ c.in-StringLiteral.is (said ∙ ap (λ ps. spec.node c.in-StringLiteral.at
    (spec.literal_shown c.args.scope.now.tables ps) []) c.as_slice.ensures)) c.string_literal.ensures

pub typed-returns-in-FunctionName : goal.typed-returns-in-FunctionName
typed-returns-in-FunctionName t c =
    IfOk-weaker c.function_name.result _ _ (λ z said. says.on-FunctionName _ c.args.scope.now z c.in-FunctionName.is said)
    c.function_name.ensures

pub typed-returns-in-Identifier : goal.typed-returns-in-Identifier
typed-returns-in-Identifier t c =
    IfOk-weaker c.identifier.result (λ z. z ≡ spec.named_told c.in-Identifier.at (look_up c.args.scope.now c.in-Identifier.name)) _ (λ z said. says.on-Identifier _ _ c.in-Identifier.is said)
    c.identifier.ensures

pub typed-returns-in-Parenthesized : goal.typed-returns-in-Parenthesized
typed-returns-in-Parenthesized t c =
    IfOk-weaker c.typed.result (λ z. typed_in z c.typed.new.scope ≡ typed c.get.result.now c.args.scope.now) _
    (λ z said. says.on-Parenthesized _ _ c.args.scope.now c.typed.new.scope z c.in-Parenthesized.is (says.of-child c.args.scope.now said
    c.get.ensures)) c.typed.ensures

pub typed-returns-in-Subscript : goal.typed-returns-in-Subscript
typed-returns-in-Subscript t c =
    tried.of_two c.value-x.result c.typed-y.result c.subscript.result _ _ _ _
    (says.valued _ _ _ _ c.typed-x.result c.value-x.result c.typed-x.ensures c.get-in-Subscript.ensures c.value-x.ensures)
    c.typed-y.ensures c.subscript.ensures
    (λ u y z hu hy said. says.on-Subscript _ _ _ c.args.scope.now c.typed-x.new.scope c.typed-y.new.scope hu.part u y z
    c.in-Subscript.is hu.said hu.is (says.of-child c.typed-x.new.scope hy c.get-in-Subscript-2.ensures) said)

pub typed-returns-in_ok-f-in-Call : goal.typed-returns-in_ok-f-in-Call
typed-returns-in_ok-f-in-Call t c =
    tried.of_one c.all_arguments-xs.result c.call.result _ _ _ c.all_arguments-xs.ensures c.call.ensures
    (λ xs z h said. says.on-Call _ _ _ c.args.scope.now c.typed-in-Call.new.scope c.all_arguments-xs.new.scope
    c.in_ok-f-in-Call.f z xs c.in-Call.is
    (says.of-child c.args.scope.now c.in_ok-f-in-Call.ensures c.get-in-Call.ensures)
    (says.of-arguments (behind (spec.no_arguments c.in_ok-f-in-Call.f.faults) c.typed-in-Call.new.scope) h
    c.as_slice-in-Call.ensures) said)

pub typed-returns-in_ok-x-in-Member : goal.typed-returns-in_ok-x-in-Member
typed-returns-in_ok-x-in-Member t c =
    IfOk-weaker c.member.result _ _ (λ z said. says.on-Member _ _ _ c.args.scope.now c.typed-in-Member.new.scope c.in_ok-x-in-Member.x z
    c.in-Member.is (says.of-child c.args.scope.now c.in_ok-x-in-Member.ensures c.get-in-Member.ensures) said) c.member.ensures

pub typed-returns-in_ok-x-in-Arrow : goal.typed-returns-in_ok-x-in-Arrow
typed-returns-in_ok-x-in-Arrow t c =
    IfOk-weaker c.arrow.result _ _ (λ z said. says.on-Arrow _ _ _ c.args.scope.now c.typed-in-Arrow.new.scope c.in_ok-x-in-Arrow.x z
    c.in-Arrow.is (says.of-child c.args.scope.now c.in_ok-x-in-Arrow.ensures c.get-in-Arrow.ensures) said) c.arrow.ensures

pub typed-returns-in_ok-x-in-Postfix : goal.typed-returns-in_ok-x-in-Postfix
typed-returns-in_ok-x-in-Postfix t c =
    IfOk-weaker c.postfix.result _ _ (λ z said. says.on-Postfix _ _ _ c.args.scope.now c.typed-in-Postfix.new.scope c.in_ok-x-in-Postfix.x z
    c.in-Postfix.is (says.of-child c.args.scope.now c.in_ok-x-in-Postfix.ensures c.get-in-Postfix.ensures) said) c.postfix.ensures

pub typed-returns-in_ok-x-in-Unary : goal.typed-returns-in_ok-x-in-Unary
typed-returns-in_ok-x-in-Unary t c =
    IfOk-weaker c.unary.result _ _ (λ z said. says.on-Unary _ _ _ c.args.scope.now c.typed-in-Unary.new.scope c.in_ok-x-in-Unary.x z
    c.in-Unary.is (says.of-child c.args.scope.now c.in_ok-x-in-Unary.ensures c.get-in-Unary.ensures) said) c.unary.ensures

pub typed-returns-in_ok-x-in-SizeofExpr : goal.typed-returns-in_ok-x-in-SizeofExpr
typed-returns-in_ok-x-in-SizeofExpr t c =
    IfOk-weaker c.size_of_expression.result _ _ (λ z said. says.on-SizeofExpr _ _ c.args.scope.now c.typed-in-SizeofExpr.new.scope c.in_ok-x-in-SizeofExpr.x z
    c.in-SizeofExpr.is (says.of-child c.args.scope.now c.in_ok-x-in-SizeofExpr.ensures c.get-in-SizeofExpr.ensures) said) c.size_of_expression.ensures

pub typed-returns-in_ok-t-in-SizeofType : goal.typed-returns-in_ok-t-in-SizeofType
typed-returns-in_ok-t-in-SizeofType t c =
    IfOk-weaker c.size_of_type.result _ _ (λ z said. says.on-SizeofType _ _ c.args.scope.now c.type_name.new.scope
    c.in_ok-t-in-SizeofType.t z c.in-SizeofType.is
    (says.of-name c.args.scope.now c.in_ok-t-in-SizeofType.ensures c.get-in-SizeofType.ensures) said) c.size_of_type.ensures

pub typed-returns-in-Cast : goal.typed-returns-in-Cast
typed-returns-in-Cast t c =
    tried.of_two c.type_name-to.result c.typed-x-in-Cast.result c.cast.result _ _ _ _ c.type_name-to.ensures
    c.typed-x-in-Cast.ensures c.cast.ensures
    (λ n x z hn hx said. says.on-Cast _ _ _ c.args.scope.now c.type_name-to.new.scope c.typed-x-in-Cast.new.scope n x z
    c.in-Cast.is (says.of-name c.args.scope.now hn c.get-in-Cast.ensures)
    (says.of-child c.type_name-to.new.scope hx c.get-in-Cast-2.ensures) said)

pub typed-returns-in-Binary : goal.typed-returns-in-Binary
typed-returns-in-Binary t c =
    tried.of_two c.value-x-in-Binary.result c.typed-y-in-Binary.result c.binary.result _ _ _ _
    (says.valued _ _ _ _ c.typed-x-in-Binary.result c.value-x-in-Binary.result c.typed-x-in-Binary.ensures
    c.get-in-Binary.ensures c.value-x-in-Binary.ensures) c.typed-y-in-Binary.ensures c.binary.ensures
    (λ u y z hu hy said. says.on-Binary _ _ _ _ c.args.scope.now c.typed-x-in-Binary.new.scope
    c.typed-y-in-Binary.new.scope hu.part u y z c.in-Binary.is hu.said hu.is
    (says.of-child c.typed-x-in-Binary.new.scope hy c.get-in-Binary-2.ensures) said)

pub typed-returns-in-Conditional : goal.typed-returns-in-Conditional
typed-returns-in-Conditional t c =
    tried.of_three c.value-c.result c.value-x-in-Conditional.result c.typed-y-in-Conditional.result c.choice.result
    _ _ _ _ _
    (says.valued _ _ _ _ c.typed-c.result c.value-c.result c.typed-c.ensures c.get-in-Conditional.ensures
    c.value-c.ensures)
    (says.valued _ _ _ _ c.typed-x-in-Conditional.result c.value-x-in-Conditional.result
    c.typed-x-in-Conditional.ensures c.get-in-Conditional-2.ensures c.value-x-in-Conditional.ensures)
    c.typed-y-in-Conditional.ensures c.choice.ensures
    (λ u v y z hu hv hy said. says.on-Conditional _ _ _ _ c.args.scope.now c.typed-c.new.scope
    c.typed-x-in-Conditional.new.scope c.typed-y-in-Conditional.new.scope hu.part u hv.part v y z c.in-Conditional.is
    hu.said hu.is hv.said hv.is
    (says.of-child c.typed-x-in-Conditional.new.scope hy c.get-in-Conditional-3.ensures) said)

pub typed-returns-in-Assign : goal.typed-returns-in-Assign
typed-returns-in-Assign t c =
    tried.of_two c.typed-x-in-Assign.result c.typed-y-in-Assign.result c.assignment.result _ _ _ _
    c.typed-x-in-Assign.ensures c.typed-y-in-Assign.ensures c.assignment.ensures
    (λ x y z hx hy said. says.on-Assign _ _ _ _ c.args.scope.now c.typed-x-in-Assign.new.scope
    c.typed-y-in-Assign.new.scope x y z c.in-Assign.is (says.of-child c.args.scope.now hx c.get-in-Assign.ensures)
    (says.of-child c.typed-x-in-Assign.new.scope hy c.get-in-Assign-2.ensures) said)

pub typed-returns-in-Comma : goal.typed-returns-in-Comma
typed-returns-in-Comma t c =
    tried.of_two c.typed-x-in-Comma.result c.typed-y-in-Comma.result c.comma.result _ _ _ _
    c.typed-x-in-Comma.ensures c.typed-y-in-Comma.ensures c.comma.ensures
    (λ x y z hx hy said. says.on-Comma _ _ _ c.args.scope.now c.typed-x-in-Comma.new.scope
    c.typed-y-in-Comma.new.scope x y z c.in-Comma.is (says.of-child c.args.scope.now hx c.get-in-Comma.ensures)
    (says.of-child c.typed-x-in-Comma.new.scope hy c.get-in-Comma-2.ensures) said)

pub declarator-returns-in_ok-clone-in-Name : goal.declarator-returns-in_ok-clone-in-Name
declarator-returns-in_ok-clone-in-Name t c =
    parts.on-Name _ _ c.args.scope.now c.new.result c.in-Name.is (c.new.ensures c.args.scope.now ∙ ap (λ (z : Name). named (Some (c.in-Name.at, z))
    c.args.scope.now) c.in_ok-clone-in-Name.ensures.cases)

pub declarator-returns-in-Omitted : goal.declarator-returns-in-Omitted
declarator-returns-in-Omitted t c =
    parts.on-Omitted c.args.scope.now c.new-in-Omitted.result c.in-Omitted.is (c.new-in-Omitted.ensures c.args.scope.now)

pub declarator-returns-in-Grouped : goal.declarator-returns-in-Grouped
declarator-returns-in-Grouped t c =
    IfOk-weaker c.declarator.result (λ x. formed_in x c.declarator.new.scope ≡ declarator_says c.get.result.now c.args.scope.now) _
    (λ x said. parts.on-Grouped _ _ c.args.scope.now c.declarator.new.scope x c.in-Grouped.is (parts.of-declarator c.args.scope.now said
    c.get.ensures)) c.declarator.ensures

pub declarator-returns-in-Pointer : goal.declarator-returns-in-Pointer
declarator-returns-in-Pointer t c =
    tried.of_one c.declarator-formed.result c.pointer.result _ _ _ c.declarator-formed.ensures
    (c.pointer.ensures c.declarator-formed.new.scope)
    (λ x y h said. parts.on-Pointer _ _ c.as_slice.result.now c.args.scope.now c.declarator-formed.new.scope x y
    c.in-Pointer.is (parts.of-declarator c.args.scope.now h c.get-in-Pointer.ensures) c.as_slice.ensures said)

pub declarator-returns-in-Array : goal.declarator-returns-in-Array
declarator-returns-in-Array t c =
    let s1 = c.declarator-formed-in-Array.new.scope in
    tried.of_two c.declarator-formed-in-Array.result c.array_length-length.result c.array.result _ _ _ _
    c.declarator-formed-in-Array.ensures c.array_length-length.ensures
    (c.array.ensures s1 c.array_length-length.new.scope)
    (λ x n y h counts said. parts.on-Array _ _ _ c.as_slice-in-Array.result.now c.args.scope.now s1
    c.array_length-length.new.scope x y n c.in-Array.is
    (parts.of-declarator c.args.scope.now h c.get-in-Array.ensures) counts c.as_slice-in-Array.ensures said)

pub array_length-returns-in-None : goal.array_length-returns-in-None
array_length-returns-in-None t c =
    parts.no-length c.args.length.now c.args.scope.now c.new.result c.in-None.is c.new.ensures

pub array_length-returns-in_ok-x-in-Some : goal.array_length-returns-in_ok-x-in-Some
array_length-returns-in_ok-x-in-Some t c =
    IfOk-weaker c.by.result _ _ (λ n. parts.some-length c.args.length.now c.in-Some.length c.args.scope.now c.typed.new.scope
    c.in_ok-x-in-Some.x n c.in-Some.is (parts.of-child c.args.scope.now c.in_ok-x-in-Some.ensures c.get.ensures))
    (c.by.ensures c.typed.new.scope)

pub declarator-returns-in-Function : goal.declarator-returns-in-Function
declarator-returns-in-Function t c =
    let s1 = c.declarator-formed-in-Function.new.scope in
    tried.of_two c.declarator-formed-in-Function.result c.all_parameters-listed.result c.function.result _ _ _ _
    c.declarator-formed-in-Function.ensures c.all_parameters-listed.ensures (c.function.ensures s1)
    (λ x l y h lists said. parts.on-Function _ _ c.as_slice-in-Function-2.result.now c.prototype-prototype.result
    c.args.scope.now s1 (enter s1) c.all_parameters-listed.new.scope c.function.new.scope x y l c.in-Function.is
    (parts.of-declarator c.args.scope.now h c.get-in-Function.ensures) refl
    (parts.of-parameters (none_listed (enter s1)) lists c.as_slice-in-Function.ensures)
    (c.prototype-prototype.ensures parameter_says) c.as_slice-in-Function-2.ensures said)

pub enumerator-returns-in-None : goal.enumerator-returns-in-None
enumerator-returns-in-None t c =
    on_ok_weaker c.add_next.result (parts.on-Enumerator-None c.args.enumerator.now c.args.scope.now c.add_next.new.scope
    c.args.counting.now c.add_next.new.self c.in-None.is) c.add_next.ensures

pub enumerator-returns-in_ok-value-in-Some : goal.enumerator-returns-in_ok-value-in-Some
enumerator-returns-in_ok-value-in-Some t c =
    on_ok_weaker c.add_given.result (parts.on-Enumerator-Some c.args.enumerator.now c.in-Some.value c.args.scope.now
    c.typed.new.scope c.add_given.new.scope c.in_ok-value-in-Some.value c.args.counting.now c.add_given.new.self
    c.in-Some.is (parts.of-child c.args.scope.now c.in_ok-value-in-Some.ensures c.get.ensures)) c.add_given.ensures

pub field-returns-in_ok-formed-in-Plain : goal.field-returns-in_ok-formed-in-Plain
field-returns-in_ok-formed-in-Plain t c =
    on_ok_weaker c.add_member.result (parts.on-Plain _ c.args.scope.now c.declarator.new.scope c.in_ok-formed-in-Plain.formed
    c.args.laid.now c.add_member.new.self c.args.ctype.now c.in-Plain.is
    (parts.of-declarator c.args.scope.now c.in_ok-formed-in-Plain.ensures c.get.ensures)) (c.add_member.ensures c.args.scope.now)

pub field-returns-in_ok-width-in-Bits : goal.field-returns-in_ok-width-in-Bits
field-returns-in_ok-width-in-Bits t c =
    on_ok_weaker c.add_width.result (parts.on-Bits _ _ _ c.args.scope.now c.bits_declarator.new.scope c.typed.new.scope
    c.in_ok-width-in-Bits.width c.args.laid.now c.bits_declarator.new.laid c.add_width.new.self c.args.ctype.now
    c.in-Bits.is c.in_ok-bits_declarator-in-Bits.ensures
    (parts.of-child c.bits_declarator.new.scope c.in_ok-width-in-Bits.ensures c.get-in-Bits.ensures))
    (c.add_width.ensures c.bits_declarator.new.scope c.typed.new.scope)

pub bits_declarator-returns-in-None : goal.bits_declarator-returns-in-None
bits_declarator-returns-in-None t c =
    on_ok_weaker c.add_unnamed_bits.result (parts.no-bits-name c.args.named.now c.args.scope.now c.args.laid.now
    c.add_unnamed_bits.new.self c.in-None.is) (c.add_unnamed_bits.ensures c.args.scope.now)

pub bits_declarator-returns-in_ok-formed-in-Some : goal.bits_declarator-returns-in_ok-formed-in-Some
bits_declarator-returns-in_ok-formed-in-Some t c =
    on_ok_weaker c.add_bits.result (parts.some-bits-name c.args.named.now c.in-Some.inner c.args.scope.now c.declarator.new.scope
    c.in_ok-formed-in-Some.formed c.args.laid.now c.add_bits.new.self c.in-Some.is
    (parts.of-declarator c.args.scope.now c.in_ok-formed-in-Some.ensures c.get.ensures))
    (c.add_bits.ensures c.args.scope.now c.declarator.new.scope)

pub member_declaration-returns : goal.member_declaration-returns
member_declaration-returns t c =
    on_ok_weaker c.all_fields.result (parts.on-MemberDeclaration c.args.member.now c.as_slice-2.result.now c.args.scope.now
    c.all_specifiers.new.scope c.all_fields.new.scope c.args.laid.now c.take_faults-faults.new.self
    c.take_specifiers.new.self c.all_fields.new.laid c.in_ok-said.said c.in_ok-ctype.ctype
    c.take_faults-faults.ensures.laid
    (parts.of-specifiers c.args.scope.now c.in_ok-said.ensures c.as_slice.ensures c.take_faults-faults.ensures.faults)
    c.in_ok-ctype.ensures.laid (c.in_ok-ctype.ensures.specified c.all_specifiers.new.scope) c.as_slice-2.ensures)
    c.all_fields.ensures

pub parameter-returns : goal.parameter-returns
parameter-returns t c =
    IfOk-weaker c.new.result _ _ (λ y. parts.on-Parameter c.args.parameter.now c.args.scope.now c.all_specifiers.new.scope
    c.declarator.new.scope c.in_ok-said.said c.in_ok-formed.formed y
    (parts.of-specifiers c.args.scope.now c.in_ok-said.ensures c.as_slice.ensures c.new-none.ensures)
    (parts.of-declarator c.all_specifiers.new.scope c.in_ok-formed.ensures c.get.ensures))
    (c.new.ensures c.all_specifiers.new.scope)

pub type_name-returns : goal.type_name-returns
type_name-returns t c =
    IfOk-weaker c.new.result _ _ (λ y. parts.on-TypeName c.args.name.now c.args.scope.now c.all_specifiers.new.scope
    c.declarator.new.scope c.in_ok-said.said c.in_ok-formed.formed y
    (parts.of-specifiers c.args.scope.now c.in_ok-said.ensures c.as_slice.ensures c.new-none.ensures)
    (parts.of-declarator c.all_specifiers.new.scope c.in_ok-formed.ensures c.get.ensures))
    (c.new.ensures c.all_specifiers.new.scope)

pub specifier-returns-in-Storage : goal.specifier-returns-in-Storage
specifier-returns-in-Storage t c =
    parts.on-Storage _ _ c.args.scope.now c.args.said.now c.add_storage.new.self c.in-Storage.is c.add_storage.ensures

pub specifier-returns-in-Qualifier : goal.specifier-returns-in-Qualifier
specifier-returns-in-Qualifier t c =
    parts.on-Qualifier _ _ c.args.scope.now c.args.said.now c.add_qualifier.new.self c.in-Qualifier.is c.add_qualifier.ensures

pub specifier-returns-in-Inline : goal.specifier-returns-in-Inline
specifier-returns-in-Inline t c =
    parts.on-Inline _ c.args.scope.now c.args.said.now c.add_inline.new.self c.in-Inline.is c.add_inline.ensures

pub specifier-returns-in-Word : goal.specifier-returns-in-Word
specifier-returns-in-Word t c =
    on_ok_weaker c.add_word.result (parts.on-Word _ _ c.args.scope.now c.args.said.now c.add_word.new.self c.in-Word.is)
    c.add_word.ensures

pub specifier-returns-in-Typedef : goal.specifier-returns-in-Typedef
specifier-returns-in-Typedef t c =
    on_ok_weaker c.add_typedef_name.result (parts.on-Typedef _ _ c.args.scope.now c.args.said.now c.add_typedef_name.new.self
    c.in-Typedef.is) c.add_typedef_name.ensures

pub specifier-returns-in-Tag : goal.specifier-returns-in-Tag
specifier-returns-in-Tag t c =
    on_ok_weaker c.add_tag.result (parts.on-Tag _ _ _ c.args.scope.now c.add_tag.new.scope c.args.said.now c.add_tag.new.self
    c.in-Tag.is) c.add_tag.ensures

pub specifier-returns-in-EnumTag : goal.specifier-returns-in-EnumTag
specifier-returns-in-EnumTag t c =
    on_ok_weaker c.add_enumeration_tag.result (parts.on-EnumTag _ _ c.args.scope.now c.args.said.now
    c.add_enumeration_tag.new.self c.in-EnumTag.is) c.add_enumeration_tag.ensures

pub specifier-returns-in_ok-laid-in-Aggregate : goal.specifier-returns-in_ok-laid-in-Aggregate
specifier-returns-in_ok-laid-in-Aggregate t c =
    let n = c.in_ok-begun-in-Aggregate.begun in
    parts.on-Aggregate _ c.in-Aggregate.kind _ _ c.args.scope.now c.begin_members.new.scope
    c.all_members.new.scope c.end_members.new.scope c.args.said.now c.begin_members.new.self c.end_members.new.self n
    c.in_ok-laid-in-Aggregate.laid c.in-Aggregate.is c.in_ok-begun-in-Aggregate.ensures.begun
    c.in_ok-begun-in-Aggregate.ensures.said
    (parts.of-members (none_laid (form_of c.in-Aggregate.kind) n.faults c.begin_members.new.scope)
    c.in_ok-laid-in-Aggregate.ensures c.as_slice.ensures) c.end_members.ensures

pub specifier-returns-in_ok-counting-in-Enumeration : goal.specifier-returns-in_ok-counting-in-Enumeration
specifier-returns-in_ok-counting-in-Enumeration t c =
    let n = c.in_ok-begun-in-Enumeration.begun in
    parts.on-Enumeration _ _ _ _ c.args.scope.now c.begin_enumerators.new.scope
    c.all_enumerators.new.scope c.end_enumerators.new.scope c.args.said.now c.begin_enumerators.new.self
    c.end_enumerators.new.self n c.in_ok-counting-in-Enumeration.counting c.in-Enumeration.is
    c.in_ok-begun-in-Enumeration.ensures.begun c.in_ok-begun-in-Enumeration.ensures.said
    (parts.of-enumerators (record { next = Some (pos 0); faults = n.faults; scope = c.begin_enumerators.new.scope })
    c.in_ok-counting-in-Enumeration.ensures c.as_slice-in-Enumeration.ensures) c.end_enumerators.ensures

pub all_specifiers-loop-item-init : goal.all_specifiers-loop-item-init
all_specifiers-loop-item-init t c =
    ap (λ (z : Said). spec_.in_order (map specifier_says c.args.items.now) (said_in z c.args.scope.now)) c.new-said.ensures

pub all_specifiers-loop-item-preserved : goal.all_specifiers-loop-item-preserved
all_specifiers-loop-item-preserved t c =
    parts.goes-on (λ (ys : List Specifier) (z : spec_.Said). spec_.in_order (map specifier_says ys) z) {step = specifier_says} (λ _ _ _. refl) c.args.items.now
    c.loop-item.item-index c.item-item.result c.get.result.now (said_in c.loop-item.said c.loop-item.scope) (said_in c.specifier.new.said c.specifier.new.scope) c.loop-item-test.true c.item-item.is
    c.get.ensures (c.in_ok-specifier.ensures) c.loop-item.invariant

pub all_specifiers-returns : goal.all_specifiers-returns
all_specifiers-returns t c =
    parts.ends (λ (ys : List Specifier) (z : spec_.Said). spec_.in_order (map specifier_says ys) z) c.args.items.now c.loop-item.item-index (said_in c.loop-item.said c.loop-item.scope) refl c.loop-item-test.false c.loop-item.invariant

pub all_members-loop-item-init : goal.all_members-loop-item-init
all_members-loop-item-init t c =
    ap (spec_.in_order (map member_says c.args.items.now)) (c.new-laid.ensures c.args.scope.now)

pub all_members-loop-item-preserved : goal.all_members-loop-item-preserved
all_members-loop-item-preserved t c =
    parts.goes-on (λ (ys : List MemberDeclaration) (z : spec_.Laid). spec_.in_order (map member_says ys) z) {step = member_says} (λ _ _ _. refl) c.args.items.now
    c.loop-item.item-index c.item-item.result c.get.result.now (laid_in c.loop-item.laid c.loop-item.scope) (laid_in c.member_declaration.new.laid c.member_declaration.new.scope) c.loop-item-test.true c.item-item.is
    c.get.ensures (c.in_ok-member_declaration.ensures) c.loop-item.invariant

pub all_members-returns : goal.all_members-returns
all_members-returns t c =
    parts.ends (λ (ys : List MemberDeclaration) (z : spec_.Laid). spec_.in_order (map member_says ys) z) c.args.items.now c.loop-item.item-index (laid_in c.loop-item.laid c.loop-item.scope) refl c.loop-item-test.false c.loop-item.invariant

pub all_enumerators-loop-item-init : goal.all_enumerators-loop-item-init
all_enumerators-loop-item-init t c =
    ap (λ (z : Counting). spec_.in_order (map enumerator_says c.args.items.now) (counting_in z c.args.scope.now)) c.new-counting.ensures

pub all_enumerators-loop-item-preserved : goal.all_enumerators-loop-item-preserved
all_enumerators-loop-item-preserved t c =
    parts.goes-on (λ (ys : List Enumerator) (z : spec_.Counting). spec_.in_order (map enumerator_says ys) z) {step = enumerator_says} (λ _ _ _. refl) c.args.items.now
    c.loop-item.item-index c.item-item.result c.get.result.now (counting_in c.loop-item.counting c.loop-item.scope) (counting_in c.enumerator.new.counting c.enumerator.new.scope) c.loop-item-test.true c.item-item.is
    c.get.ensures (c.in_ok-enumerator.ensures) c.loop-item.invariant

pub all_enumerators-returns : goal.all_enumerators-returns
all_enumerators-returns t c =
    parts.ends (λ (ys : List Enumerator) (z : spec_.Counting). spec_.in_order (map enumerator_says ys) z) c.args.items.now c.loop-item.item-index (counting_in c.loop-item.counting c.loop-item.scope) refl c.loop-item-test.false c.loop-item.invariant

pub all_fields-loop-item-init : goal.all_fields-loop-item-init
all_fields-loop-item-init t c =
    refl

pub all_fields-loop-item-preserved : goal.all_fields-loop-item-preserved
all_fields-loop-item-preserved t c =
    parts.goes-on (λ (ys : List Field) (z : spec_.Laid). spec_.each_field (map field_says ys) c.args.ctype.now z) {step = (λ (f : Field) (z : spec_.Laid). field_says f c.args.ctype.now z)} (λ _ _ _. refl) c.args.items.now
    c.loop-item.item-index c.item-item.result c.get.result.now (laid_in c.loop-item.laid c.loop-item.scope) (laid_in c.field.new.laid c.field.new.scope) c.loop-item-test.true c.item-item.is
    c.get.ensures (c.in_ok-field.ensures) c.loop-item.invariant

pub all_fields-returns : goal.all_fields-returns
all_fields-returns t c =
    parts.ends (λ (ys : List Field) (z : spec_.Laid). spec_.each_field (map field_says ys) c.args.ctype.now z)
    c.args.items.now c.loop-item.item-index (laid_in c.loop-item.laid c.loop-item.scope) refl c.loop-item-test.false
    c.loop-item.invariant ∙ parts.some-fields c.args.items.now c.args.ctype.now (laid_in c.args.laid.now c.args.scope.now)
    (sym c.is_empty.ensures ∙ c.if-is_empty.false)

pub all_parameters-loop-item-init : goal.all_parameters-loop-item-init
all_parameters-loop-item-init t c =
    ap (λ (z : Listed). spec_.listed (listed_in z c.enter.new.self) (map parameter_says c.args.items.now))
    c.new-listed.ensures ∙ ap (λ s. spec_.listed (none_listed s) (map parameter_says c.args.items.now))
    c.in_ok-enter.ensures

pub all_parameters-loop-item-preserved : goal.all_parameters-loop-item-preserved
all_parameters-loop-item-preserved t c =
    parts.goes-on (λ (ys : List Parameter) (z : spec_.Listed). spec_.listed z (map parameter_says ys)) {step = (λ (p : Parameter) (z : spec_.Listed). spec_.and_parameter z (parameter_says p z.after))} (λ _ _ _. refl) c.args.items.now
    c.loop-item.item-index c.item-item.result c.get.result.now (listed_in c.loop-item.listed c.loop-item.scope) (listed_in c.add.new.self c.add.new.scope) c.loop-item-test.true c.item-item.is
    c.get.ensures (c.in_ok-add.ensures c.loop-item.scope ∙ ap (spec_.and_parameter (listed_in c.loop-item.listed c.loop-item.scope)) c.in_ok-named.ensures) c.loop-item.invariant

pub all_parameters-returns : goal.all_parameters-returns
all_parameters-returns t c =
    parts.ends (λ (ys : List Parameter) (z : spec_.Listed). spec_.listed z (map parameter_says ys)) c.args.items.now c.loop-item.item-index (listed_in c.loop-item.listed c.loop-item.scope) refl c.loop-item-test.false c.loop-item.invariant

pub all_arguments-loop-item-init : goal.all_arguments-loop-item-init
all_arguments-loop-item-init t c =
    ap (λ (z : spec.Arguments). through (behind z c.args.scope.now) (map typed c.args.items.now)) c.no_arguments-all.ensures

pub all_arguments-loop-item-preserved : goal.all_arguments-loop-item-preserved
all_arguments-loop-item-preserved t c =
    parts.goes-on (λ (ys : List Expr) (z : Through). through z (map typed ys)) {step = (λ (e : Expr) (z : Through). through_one z (typed e z.after))} (λ _ _ _. refl) c.args.items.now
    c.loop-item.item-index c.item-item.result c.get.result.now (behind c.loop-item.all c.loop-item.scope) (behind c.in_ok-all.all c.typed.new.scope) c.loop-item-test.true c.item-item.is
    c.get.ensures (says.one-argument c.loop-item.scope c.typed.new.scope c.in_ok-x.x c.in_ok-x-2.x c.get.result.now c.loop-item.all c.in_ok-all.all c.in_ok-x.ensures c.in_ok-x-2.ensures c.in_ok-all.ensures) c.loop-item.invariant

pub all_arguments-returns : goal.all_arguments-returns
all_arguments-returns t c =
    parts.ends (λ (ys : List Expr) (z : Through). through z (map typed ys)) c.args.items.now c.loop-item.item-index (behind c.loop-item.all c.loop-item.scope) refl c.loop-item-test.false c.loop-item.invariant
