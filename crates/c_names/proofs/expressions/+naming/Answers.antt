use Rattle.std.proofs.Common.{ℕ, List, ◌∷◌, Some, map, ap, ◌∙◌}
use Rattle.c_means.specs.Expressions.{joined}
use Rattle.c_means.specs.Names.{literal, all, settled, derived, function_names, with_name, names_of}
use Rattle.c_means.specs.Names.{declarator_names, specifier_of}
use Rattle.c_names.specs.Trees.{field_names, enumerator_names, member_names, parameter_names, type_name_names}
use Rattle.c_names.proofs.Arms as arms
use Rattle.c_names.proofs.NamesOf as names
use Rattle.c_names.proofs.expressions.+naming.Goals as goal

pub put_expr-returns-in-Integer : goal.put_expr-returns-in-Integer
put_expr-returns-in-Integer t c =
    arms.made c.put_nothing.result c.put_nothing.new.done _ _ c.put_nothing.ensures (arms.named (names.names-Integer _ _ c.in-Integer.is))

pub put_expr-returns-in-Floating : goal.put_expr-returns-in-Floating
put_expr-returns-in-Floating t c =
    arms.made c.put_nothing-in-Floating.result c.put_nothing-in-Floating.new.done _ _ c.put_nothing-in-Floating.ensures (arms.named (names.names-Floating _ c.in-Floating.is))

pub put_expr-returns-in-Character : goal.put_expr-returns-in-Character
put_expr-returns-in-Character t c =
    arms.made c.put_nothing-in-Character.result c.put_nothing-in-Character.new.done _ _ c.put_nothing-in-Character.ensures (arms.named (names.names-Character _ _ c.in-Character.is))

pub put_expr-returns-in-StringLiteral : goal.put_expr-returns-in-StringLiteral
put_expr-returns-in-StringLiteral t c =
    arms.made c.put_literal.result c.put_literal.new.done _ _ c.put_literal.ensures (ap (λ (ps : List (List ℕ)). literal c.in-StringLiteral.at (Some (joined ps)) ∷ c.args.done.now) c.as_slice.ensures
    ∙ arms.named (names.names-StringLiteral _ _ c.in-StringLiteral.is))

pub put_expr-returns-in-FunctionName : goal.put_expr-returns-in-FunctionName
put_expr-returns-in-FunctionName t c =
    arms.made c.put_function_name.result c.put_function_name.new.done _ _ c.put_function_name.ensures (arms.named (names.names-FunctionName _ c.in-FunctionName.is))

pub put_expr-returns-in-Identifier : goal.put_expr-returns-in-Identifier
put_expr-returns-in-Identifier t c =
    arms.made c.put_name.result c.put_name.new.done _ _ c.put_name.ensures (arms.named (names.names-Identifier _ _ c.in-Identifier.is))

pub put_expr-returns-in-Parenthesized : goal.put_expr-returns-in-Parenthesized
put_expr-returns-in-Parenthesized t c =
    arms.made c.put_expr.result c.put_expr.new.done _ _ c.put_expr.ensures (ap (λ z. names_of z ∷ c.args.done.now) c.get.ensures ∙ arms.named (names.names-Parenthesized _ _ c.in-Parenthesized.is))

pub put_expr-returns-in_ok-put_expr-in-Subscript-2 : goal.put_expr-returns-in_ok-put_expr-in-Subscript-2
put_expr-returns-in_ok-put_expr-in-Subscript-2 t c =
    arms.made c.join.result c.join.new.done _ _ c.join.ensures (arms.join-two (arms.top names_of c.in_ok-put_expr-in-Subscript.ensures c.get-in-Subscript.ensures)
    (arms.top names_of c.in_ok-put_expr-in-Subscript-2.ensures c.get-in-Subscript-2.ensures) ∙ arms.named (names.names-Subscript _ _ _ c.in-Subscript.is))

pub put_expr-returns-in_ok-put_exprs-in-Call : goal.put_expr-returns-in_ok-put_exprs-in-Call
put_expr-returns-in_ok-put_exprs-in-Call t c =
    arms.made c.join-in-Call.result c.join-in-Call.new.done _ _ c.join-in-Call.ensures (arms.join-two (arms.top names_of c.in_ok-put_expr-in-Call.ensures c.get-in-Call.ensures)
    (arms.top (λ z. all (map names_of z)) c.in_ok-put_exprs-in-Call.ensures c.as_slice-in-Call.ensures) ∙ arms.named (names.names-Call _ _ _ c.in-Call.is))

pub put_expr-returns-in-Member : goal.put_expr-returns-in-Member
put_expr-returns-in-Member t c =
    arms.made c.put_expr-in-Member.result c.put_expr-in-Member.new.done _ _ c.put_expr-in-Member.ensures (ap (λ z. names_of z ∷ c.args.done.now) c.get-in-Member.ensures ∙ arms.named (names.names-Member _ _ _ c.in-Member.is))

pub put_expr-returns-in-Arrow : goal.put_expr-returns-in-Arrow
put_expr-returns-in-Arrow t c =
    arms.made c.put_expr-in-Arrow.result c.put_expr-in-Arrow.new.done _ _ c.put_expr-in-Arrow.ensures (ap (λ z. names_of z ∷ c.args.done.now) c.get-in-Arrow.ensures ∙ arms.named (names.names-Arrow _ _ _ c.in-Arrow.is))

pub put_expr-returns-in-Postfix : goal.put_expr-returns-in-Postfix
put_expr-returns-in-Postfix t c =
    arms.made c.put_expr-in-Postfix.result c.put_expr-in-Postfix.new.done _ _ c.put_expr-in-Postfix.ensures (ap (λ z. names_of z ∷ c.args.done.now) c.get-in-Postfix.ensures ∙ arms.named (names.names-Postfix _ _ _ c.in-Postfix.is))

pub put_expr-returns-in-Unary : goal.put_expr-returns-in-Unary
put_expr-returns-in-Unary t c =
    arms.made c.put_expr-in-Unary.result c.put_expr-in-Unary.new.done _ _ c.put_expr-in-Unary.ensures (ap (λ z. names_of z ∷ c.args.done.now) c.get-in-Unary.ensures ∙ arms.named (names.names-Unary _ _ _ c.in-Unary.is))

pub put_expr-returns-in-SizeofExpr : goal.put_expr-returns-in-SizeofExpr
put_expr-returns-in-SizeofExpr t c =
    arms.made c.put_expr-in-SizeofExpr.result c.put_expr-in-SizeofExpr.new.done _ _ c.put_expr-in-SizeofExpr.ensures (ap (λ z. names_of z ∷ c.args.done.now) c.get-in-SizeofExpr.ensures ∙ arms.named (names.names-SizeofExpr _ _ c.in-SizeofExpr.is))

pub put_expr-returns-in-SizeofType : goal.put_expr-returns-in-SizeofType
put_expr-returns-in-SizeofType t c =
    arms.made c.put_type_name.result c.put_type_name.new.done _ _ c.put_type_name.ensures (ap (λ z. type_name_names z ∷ c.args.done.now) c.get-in-SizeofType.ensures ∙ arms.named (names.names-SizeofType _ _ c.in-SizeofType.is))

pub put_expr-returns-in_ok-put_expr-in-Cast : goal.put_expr-returns-in_ok-put_expr-in-Cast
put_expr-returns-in_ok-put_expr-in-Cast t c =
    arms.made c.join-in-Cast.result c.join-in-Cast.new.done _ _ c.join-in-Cast.ensures (arms.join-two (arms.top type_name_names c.in_ok-put_type_name-in-Cast.ensures c.get-in-Cast.ensures)
    (arms.top names_of c.in_ok-put_expr-in-Cast.ensures c.get-in-Cast-2.ensures) ∙ arms.named (names.names-Cast _ _ _ c.in-Cast.is))

pub put_expr-returns-in_ok-put_expr-in-Binary-2 : goal.put_expr-returns-in_ok-put_expr-in-Binary-2
put_expr-returns-in_ok-put_expr-in-Binary-2 t c =
    arms.made c.join-in-Binary.result c.join-in-Binary.new.done _ _ c.join-in-Binary.ensures (arms.join-two (arms.top names_of c.in_ok-put_expr-in-Binary.ensures c.get-in-Binary.ensures)
    (arms.top names_of c.in_ok-put_expr-in-Binary-2.ensures c.get-in-Binary-2.ensures) ∙ arms.named (names.names-Binary _ _ _ _ c.in-Binary.is))

pub put_expr-returns-in_ok-join-in-Conditional : goal.put_expr-returns-in_ok-join-in-Conditional
put_expr-returns-in_ok-join-in-Conditional t c =
    arms.made c.join-in-Conditional-2.result c.join-in-Conditional-2.new.done _ _ c.join-in-Conditional-2.ensures (arms.join-two (arms.top names_of c.in_ok-put_expr-in-Conditional.ensures c.get-in-Conditional.ensures)
    (c.in_ok-join-in-Conditional.ensures ∙ arms.join-two (arms.top names_of c.in_ok-put_expr-in-Conditional-2.ensures c.get-in-Conditional-2.ensures)
    (arms.top names_of c.in_ok-put_expr-in-Conditional-3.ensures c.get-in-Conditional-3.ensures)) ∙ arms.named (names.names-Conditional _ _ _ _ c.in-Conditional.is))

pub put_expr-returns-in_ok-put_expr-in-Assign-2 : goal.put_expr-returns-in_ok-put_expr-in-Assign-2
put_expr-returns-in_ok-put_expr-in-Assign-2 t c =
    arms.made c.join-in-Assign.result c.join-in-Assign.new.done _ _ c.join-in-Assign.ensures (arms.join-two (arms.top names_of c.in_ok-put_expr-in-Assign.ensures c.get-in-Assign.ensures)
    (arms.top names_of c.in_ok-put_expr-in-Assign-2.ensures c.get-in-Assign-2.ensures) ∙ arms.named (names.names-Assign _ _ _ _ c.in-Assign.is))

pub put_expr-returns-in_ok-put_expr-in-Comma-2 : goal.put_expr-returns-in_ok-put_expr-in-Comma-2
put_expr-returns-in_ok-put_expr-in-Comma-2 t c =
    arms.made c.join-in-Comma.result c.join-in-Comma.new.done _ _ c.join-in-Comma.ensures (arms.join-two (arms.top names_of c.in_ok-put_expr-in-Comma.ensures c.get-in-Comma.ensures)
    (arms.top names_of c.in_ok-put_expr-in-Comma-2.ensures c.get-in-Comma-2.ensures) ∙ arms.named (names.names-Comma _ _ _ c.in-Comma.is))

pub put_declarator-returns-in-Name : goal.put_declarator-returns-in-Name
put_declarator-returns-in-Name t c =
    arms.made c.put_declarator_name.result c.put_declarator_name.new.done _ _ c.put_declarator_name.ensures (arms.named (names.declarator-Name _ _ c.in-Name.is))

pub put_declarator-returns-in-Omitted : goal.put_declarator-returns-in-Omitted
put_declarator-returns-in-Omitted t c =
    arms.made c.put_nothing.result c.put_nothing.new.done _ _ c.put_nothing.ensures (arms.named (names.declarator-Omitted c.in-Omitted.is))

pub put_declarator-returns-in-Grouped : goal.put_declarator-returns-in-Grouped
put_declarator-returns-in-Grouped t c =
    arms.made c.put_declarator.result c.put_declarator.new.done _ _ c.put_declarator.ensures (ap (λ z. declarator_names z ∷ c.args.done.now) c.get.ensures ∙ arms.named (names.declarator-Grouped _ _ c.in-Grouped.is))

pub put_declarator-returns-in_ok-put_nothing-in-Pointer : goal.put_declarator-returns-in_ok-put_nothing-in-Pointer
put_declarator-returns-in_ok-put_nothing-in-Pointer t c =
    arms.made c.derive.result c.derive.new.done _ _ c.derive.ensures (arms.two derived (arms.top declarator_names c.in_ok-put_declarator-in-Pointer.ensures c.get-in-Pointer.ensures)
    c.in_ok-put_nothing-in-Pointer.ensures ∙ arms.named (names.declarator-Pointer _ _ _ c.in-Pointer.is))

pub put_declarator-returns-in_ok-put_optional_expr-in-Array : goal.put_declarator-returns-in_ok-put_optional_expr-in-Array
put_declarator-returns-in_ok-put_optional_expr-in-Array t c =
    arms.made c.derive-in-Array.result c.derive-in-Array.new.done _ _ c.derive-in-Array.ensures (arms.two derived (arms.top declarator_names c.in_ok-put_declarator-in-Array.ensures c.get-in-Array.ensures)
    c.in_ok-put_optional_expr-in-Array.ensures ∙ arms.named (names.declarator-Array _ _ _ _ c.in-Array.is))

pub put_declarator-returns-in_ok-put_parameters-in-Function : goal.put_declarator-returns-in_ok-put_parameters-in-Function
put_declarator-returns-in_ok-put_parameters-in-Function t c =
    arms.made c.to_function.result c.to_function.new.done _ _ c.to_function.ensures (arms.two function_names (arms.top declarator_names c.in_ok-put_declarator-in-Function.ensures c.get-in-Function.ensures)
    (arms.top (λ z. all (map parameter_names z)) c.in_ok-put_parameters-in-Function.ensures c.as_slice.ensures) ∙ arms.named (names.declarator-Function _ _ _ _ c.in-Function.is))

pub put_specifier-returns-in-Storage : goal.put_specifier-returns-in-Storage
put_specifier-returns-in-Storage t c =
    arms.made c.put_nothing.result c.put_nothing.new.done _ _ c.put_nothing.ensures (arms.named (names.specifier-Storage _ _ c.in-Storage.is))

pub put_specifier-returns-in-Qualifier : goal.put_specifier-returns-in-Qualifier
put_specifier-returns-in-Qualifier t c =
    arms.made c.put_nothing-in-Qualifier.result c.put_nothing-in-Qualifier.new.done _ _ c.put_nothing-in-Qualifier.ensures (arms.named (names.specifier-Qualifier _ _ c.in-Qualifier.is))

pub put_specifier-returns-in-Inline : goal.put_specifier-returns-in-Inline
put_specifier-returns-in-Inline t c =
    arms.made c.put_nothing-in-Inline.result c.put_nothing-in-Inline.new.done _ _ c.put_nothing-in-Inline.ensures (arms.named (names.specifier-Inline _ c.in-Inline.is))

pub put_specifier-returns-in-Word : goal.put_specifier-returns-in-Word
put_specifier-returns-in-Word t c =
    arms.made c.put_nothing-in-Word.result c.put_nothing-in-Word.new.done _ _ c.put_nothing-in-Word.ensures (arms.named (names.specifier-Word _ _ c.in-Word.is))

pub put_specifier-returns-in-Typedef : goal.put_specifier-returns-in-Typedef
put_specifier-returns-in-Typedef t c =
    arms.made c.put_name.result c.put_name.new.done _ _ c.put_name.ensures (arms.named (names.specifier-Typedef _ _ c.in-Typedef.is))

pub put_specifier-returns-in-Tag : goal.put_specifier-returns-in-Tag
put_specifier-returns-in-Tag t c =
    arms.made c.put_tag.result c.put_tag.new.done _ _ c.put_tag.ensures (arms.named (names.specifier-Tag _ _ _ c.in-Tag.is))

pub put_specifier-returns-in_ok-join-in-Aggregate : goal.put_specifier-returns-in_ok-join-in-Aggregate
put_specifier-returns-in_ok-join-in-Aggregate t c =
    arms.made c.settle.result c.settle.new.done _ _ c.settle.ensures (arms.last settled (c.in_ok-join-in-Aggregate.ensures ∙ arms.join-two c.in_ok-put_declared_tag-in-Aggregate.ensures
    (arms.top (λ z. all (map member_names z)) c.in_ok-put_members-in-Aggregate.ensures c.as_slice.ensures)) ∙ arms.named (names.specifier-Aggregate _ _ _ _ c.in-Aggregate.is))

pub put_specifier-returns-in-EnumTag : goal.put_specifier-returns-in-EnumTag
put_specifier-returns-in-EnumTag t c =
    arms.made c.put_enumeration.result c.put_enumeration.new.done _ _ c.put_enumeration.ensures (arms.named (names.specifier-EnumTag _ _ c.in-EnumTag.is))

pub put_specifier-returns-in_ok-put_enumerators-in-Enumeration : goal.put_specifier-returns-in_ok-put_enumerators-in-Enumeration
put_specifier-returns-in_ok-put_enumerators-in-Enumeration t c =
    arms.made c.join-in-Enumeration.result c.join-in-Enumeration.new.done _ _ c.join-in-Enumeration.ensures (arms.join-two c.in_ok-put_declared_tag-in-Enumeration.ensures
    (arms.top (λ z. all (map enumerator_names z)) c.in_ok-put_enumerators-in-Enumeration.ensures c.as_slice-in-Enumeration.ensures) ∙ arms.named (names.specifier-Enumeration _ _ _ _ c.in-Enumeration.is))

pub put_field-returns-in-Plain : goal.put_field-returns-in-Plain
put_field-returns-in-Plain t c =
    arms.made c.put_declarator.result c.put_declarator.new.done _ _ c.put_declarator.ensures (ap (λ z. declarator_names z ∷ c.args.done.now) c.get.ensures ∙ arms.named (names.field-Plain _ c.in-Plain.is))

pub put_field-returns-in_ok-put_expr-in-Bits : goal.put_field-returns-in_ok-put_expr-in-Bits
put_field-returns-in_ok-put_expr-in-Bits t c =
    arms.made c.join.result c.join.new.done _ _ c.join.ensures (arms.join-two c.in_ok-put_optional_declarator-in-Bits.ensures
    (arms.top names_of c.in_ok-put_expr-in-Bits.ensures c.get-in-Bits.ensures) ∙ arms.named (names.field-Bits _ _ _ c.in-Bits.is))

pub put_type_name-returns : goal.put_type_name-returns
put_type_name-returns t c =
    arms.made c.settle.result c.settle.new.done _ _ c.settle.ensures (arms.last settled (c.in_ok-join.ensures ∙ arms.join-two (arms.top (λ z. all (map specifier_of z)) c.in_ok-put_specifiers.ensures c.as_slice.ensures)
    (arms.top declarator_names c.in_ok-put_declarator.ensures c.get.ensures)) ∙ arms.named (names.type-name-is c.args.t.now))

pub put_member-returns : goal.put_member-returns
put_member-returns t c =
    arms.made c.settle.result c.settle.new.done _ _ c.settle.ensures (arms.last settled (c.in_ok-join.ensures ∙ arms.join-two (arms.top (λ z. all (map specifier_of z)) c.in_ok-put_specifiers.ensures c.as_slice.ensures)
    (arms.top (λ z. all (map field_names z)) c.in_ok-put_fields.ensures c.as_slice-2.ensures)) ∙ arms.named (names.member-is c.args.m.now))

pub put_parameter-returns : goal.put_parameter-returns
put_parameter-returns t c =
    arms.made c.settle.result c.settle.new.done _ _ c.settle.ensures (arms.last settled (c.in_ok-join.ensures ∙ arms.join-two (arms.top (λ z. all (map specifier_of z)) c.in_ok-put_specifiers.ensures c.as_slice.ensures)
    (c.in_ok-name_last.ensures ∙ arms.last with_name (arms.top declarator_names c.in_ok-put_declarator.ensures c.get.ensures))) ∙ arms.named (names.parameter-is c.args.p.now))

pub put_enumerator-returns : goal.put_enumerator-returns
put_enumerator-returns t c =
    arms.made c.join.result c.join.new.done _ _ c.join.ensures (arms.join-two c.in_ok-put_optional_expr.ensures c.in_ok-put_declared.ensures
    ∙ arms.named (names.enumerator-is c.args.e.now))

pub put_exprs-returns : goal.put_exprs-returns
put_exprs-returns t c =
    arms.made c.join_all.result c.join_all.new.done _ _ c.join_all.ensures (arms.put_all names_of c.args.items.now c.loop-item.item-index
    c.loop-item.done c.args.done.now c.loop-item-test.false c.loop-item.invariant)

pub put_specifiers-returns : goal.put_specifiers-returns
put_specifiers-returns t c =
    arms.made c.join_all.result c.join_all.new.done _ _ c.join_all.ensures (arms.put_all specifier_of c.args.items.now c.loop-item.item-index
    c.loop-item.done c.args.done.now c.loop-item-test.false c.loop-item.invariant)

pub put_members-returns : goal.put_members-returns
put_members-returns t c =
    arms.made c.join_all.result c.join_all.new.done _ _ c.join_all.ensures (arms.put_all member_names c.args.items.now c.loop-item.item-index
    c.loop-item.done c.args.done.now c.loop-item-test.false c.loop-item.invariant)

pub put_fields-returns : goal.put_fields-returns
put_fields-returns t c =
    arms.made c.join_all.result c.join_all.new.done _ _ c.join_all.ensures (arms.put_all field_names c.args.items.now c.loop-item.item-index
    c.loop-item.done c.args.done.now c.loop-item-test.false c.loop-item.invariant)

pub put_enumerators-returns : goal.put_enumerators-returns
put_enumerators-returns t c =
    arms.made c.join_all.result c.join_all.new.done _ _ c.join_all.ensures (arms.put_all enumerator_names c.args.items.now c.loop-item.item-index
    c.loop-item.done c.args.done.now c.loop-item-test.false c.loop-item.invariant)

pub put_parameters-returns : goal.put_parameters-returns
put_parameters-returns t c =
    arms.made c.join_all.result c.join_all.new.done _ _ c.join_all.ensures (arms.put_all parameter_names c.args.items.now c.loop-item.item-index
    c.loop-item.done c.args.done.now c.loop-item-test.false c.loop-item.invariant)
