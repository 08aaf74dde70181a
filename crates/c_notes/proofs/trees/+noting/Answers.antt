use Rattle.std.proofs.Common.{[], ap, ◌∙◌}
use Rattle.std.proofs.lemmas.Result.{IfOk-weaker}
use Rattle.c_language.specs.Typing as spec
use Rattle.c_typing.proofs.Says as says
use Rattle.c_notes.specs.Relations.{IsNoted}
use Rattle.c_notes.proofs.EachForm as each
use Rattle.c_notes.proofs.Found as found
use Rattle.plain_data.proofs.Tried as tried
use Rattle.c_notes.proofs.OnCalls as calls
use Rattle.c_notes.proofs.trees.+noting.Goals as goal

pub noted-returns-in-Integer : goal.noted-returns-in-Integer
noted-returns-in-Integer t c =
    tried.of_one c.integer_constant.result c.leaf.result _ _ _ c.integer_constant.ensures c.leaf.ensures
    (λ x z told is. each.on-Integer _ _ x z c.in-Integer.is told is)

pub noted-returns-in-Floating : goal.noted-returns-in-Floating
noted-returns-in-Floating t c =
    tried.of_one c.floating_constant.result c.leaf-in-Floating.result _ _ _ c.floating_constant.ensures
    c.leaf-in-Floating.ensures (λ x z told is. each.on-Floating _ x z c.in-Floating.is told is)

pub noted-returns-in-Character : goal.noted-returns-in-Character
noted-returns-in-Character t c =
    tried.of_one c.character_constant.result c.leaf-in-Character.result _ _ _ c.character_constant.ensures
    c.leaf-in-Character.ensures (λ x z told is. each.on-Character _ _ x z c.in-Character.is told is)

pub noted-returns-in-StringLiteral : goal.noted-returns-in-StringLiteral
noted-returns-in-StringLiteral t c =
    tried.of_one c.string_literal-told.result c.literal.result _ _ _ c.string_literal-told.ensures c.literal.ensures
    (λ x z told is. each.on-StringLiteral _ _ c.as_slice-in-StringLiteral.result.now x z c.in-StringLiteral.is
    c.as_slice-in-StringLiteral.ensures
    (told ∙ ap (λ ps. spec.node c.in-StringLiteral.at (spec.literal_shown c.args.scope.now.tables ps) [])
    c.as_slice.ensures) is)

pub noted-returns-in-FunctionName : goal.noted-returns-in-FunctionName
noted-returns-in-FunctionName t c =
    tried.of_one c.function_name.result c.placed_leaf.result _ _ _ c.function_name.ensures c.placed_leaf.ensures
    (λ x z told is. each.on-FunctionName _ c.args.scope.now x z c.in-FunctionName.is told is)

pub noted-returns-in-Identifier : goal.noted-returns-in-Identifier
noted-returns-in-Identifier t c =
    tried.of_one c.identifier-told.result c.placed_leaf-in-Identifier.result _ _ _ c.identifier-told.ensures
    c.placed_leaf-in-Identifier.ensures (λ x z told is. each.on-Identifier _ c.in-Identifier.name x z
    c.is_fixed_name.result c.in-Identifier.is told c.is_fixed_name.ensures is)

pub noted-returns-in-Parenthesized : goal.noted-returns-in-Parenthesized
noted-returns-in-Parenthesized t c =
    IfOk-weaker c.noted.result
    (λ z. IsNoted c.args.profile.now c.get.result.now c.args.scope.now z c.noted.new.scope) _
    (λ z said. each.on-Parenthesized _ _ c.args.scope.now c.noted.new.scope z c.in-Parenthesized.is
    (each.of-child c.args.scope.now said c.get.ensures)) c.noted.ensures

pub noted-returns-in-Member : goal.noted-returns-in-Member
noted-returns-in-Member t c =
    tried.of_one c.noted-x-in-Member.result c.member.result _ _ _ c.noted-x-in-Member.ensures c.member.ensures
    (λ x z h said. each.on-Member _ _ _ c.args.scope.now c.noted-x-in-Member.new.scope x z c.in-Member.is
    (each.of-child c.args.scope.now h c.get-in-Member.ensures) said)

pub noted-returns-in-Arrow : goal.noted-returns-in-Arrow
noted-returns-in-Arrow t c =
    tried.of_one c.noted-x-in-Arrow.result c.arrow.result _ _ _ c.noted-x-in-Arrow.ensures c.arrow.ensures
    (λ x z h said. each.on-Arrow _ _ _ c.args.scope.now c.noted-x-in-Arrow.new.scope x z c.in-Arrow.is
    (each.of-child c.args.scope.now h c.get-in-Arrow.ensures) said)

pub noted-returns-in-Postfix : goal.noted-returns-in-Postfix
noted-returns-in-Postfix t c =
    tried.of_one c.noted-x-in-Postfix.result c.postfix.result _ _ _ c.noted-x-in-Postfix.ensures c.postfix.ensures
    (λ x z h said. each.on-Postfix _ _ _ c.args.scope.now c.noted-x-in-Postfix.new.scope x z c.in-Postfix.is
    (each.of-child c.args.scope.now h c.get-in-Postfix.ensures) said)

pub noted-returns-in-Unary : goal.noted-returns-in-Unary
noted-returns-in-Unary t c =
    tried.of_one c.noted-x-in-Unary.result c.unary.result _ _ _ c.noted-x-in-Unary.ensures c.unary.ensures
    (λ x z h said. each.on-Unary _ _ _ c.args.scope.now c.noted-x-in-Unary.new.scope x z c.in-Unary.is
    (each.of-child c.args.scope.now h c.get-in-Unary.ensures) said)

pub noted-returns-in-SizeofExpr : goal.noted-returns-in-SizeofExpr
noted-returns-in-SizeofExpr t c =
    tried.of_one c.noted-x-in-SizeofExpr.result c.size_of_expression.result _ _ _ c.noted-x-in-SizeofExpr.ensures
    c.size_of_expression.ensures
    (λ x z h said. each.on-SizeofExpr _ _ c.args.scope.now c.noted-x-in-SizeofExpr.new.scope x z c.in-SizeofExpr.is
    (each.of-child c.args.scope.now h c.get-in-SizeofExpr.ensures) said)

pub noted-returns-in-Subscript : goal.noted-returns-in-Subscript
noted-returns-in-Subscript t c =
    tried.of_two c.value-x.result c.noted-y.result c.subscript.result _ _ _ _
    (found.valued _ _ _ _ _ c.noted-x.result c.value-x.result c.noted-x.ensures c.get-in-Subscript.ensures
    c.value-x.ensures) c.noted-y.ensures
    c.subscript.ensures
    (λ u y z hu hy said. each.on-Subscript _ _ _ c.args.scope.now c.noted-x.new.scope c.noted-y.new.scope hu.part u y
    z
    c.in-Subscript.is hu.noted hu.is (each.of-child c.noted-x.new.scope hy c.get-in-Subscript-2.ensures) said)

pub noted-returns-in-Binary : goal.noted-returns-in-Binary
noted-returns-in-Binary t c =
    tried.of_two c.value-x-in-Binary.result c.noted-y-in-Binary.result c.binary.result _ _ _ _
    (found.valued _ _ _ _ _ c.noted-x-in-Binary.result c.value-x-in-Binary.result c.noted-x-in-Binary.ensures
    c.get-in-Binary.ensures c.value-x-in-Binary.ensures) c.noted-y-in-Binary.ensures
    c.binary.ensures
    (λ u y z hu hy said. each.on-Binary _ _ _ _ c.args.scope.now c.noted-x-in-Binary.new.scope
    c.noted-y-in-Binary.new.scope hu.part u y z
    c.in-Binary.is hu.noted hu.is (each.of-child c.noted-x-in-Binary.new.scope hy c.get-in-Binary-2.ensures) said)

pub noted-returns-in-Assign : goal.noted-returns-in-Assign
noted-returns-in-Assign t c =
    tried.of_two c.noted-x-in-Assign.result c.noted-y-in-Assign.result c.assignment.result _ _ _ _
    c.noted-x-in-Assign.ensures c.noted-y-in-Assign.ensures c.assignment.ensures
    (λ x y z hx hy said. each.on-Assign _ _ _ _ c.args.scope.now c.noted-x-in-Assign.new.scope
    c.noted-y-in-Assign.new.scope x y z
    c.in-Assign.is (each.of-child c.args.scope.now hx c.get-in-Assign.ensures)
    (each.of-child c.noted-x-in-Assign.new.scope hy c.get-in-Assign-2.ensures) said)

pub noted-returns-in-Comma : goal.noted-returns-in-Comma
noted-returns-in-Comma t c =
    tried.of_two c.noted-x-in-Comma.result c.noted-y-in-Comma.result c.comma.result _ _ _ _
    c.noted-x-in-Comma.ensures c.noted-y-in-Comma.ensures c.comma.ensures
    (λ x y z hx hy said. each.on-Comma _ _ _ c.args.scope.now c.noted-x-in-Comma.new.scope
    c.noted-y-in-Comma.new.scope x y z
    c.in-Comma.is (each.of-child c.args.scope.now hx c.get-in-Comma.ensures)
    (each.of-child c.noted-x-in-Comma.new.scope hy c.get-in-Comma-2.ensures) said)

pub noted-returns-in-SizeofType : goal.noted-returns-in-SizeofType
noted-returns-in-SizeofType t c =
    tried.of_one c.type_name-t.result c.size_of_type.result _ _ _ c.type_name-t.ensures c.size_of_type.ensures
    (λ k z h said. each.on-SizeofType _ _ c.args.scope.now c.type_name-t.new.scope k z c.in-SizeofType.is
    (says.of-name c.args.scope.now h c.get-in-SizeofType.ensures) said)

pub noted-returns-in-Cast : goal.noted-returns-in-Cast
noted-returns-in-Cast t c =
    tried.of_two c.type_name-to.result c.noted-x-in-Cast.result c.cast.result _ _ _ _ c.type_name-to.ensures
    c.noted-x-in-Cast.ensures c.cast.ensures
    (λ k x z hk hx said. each.on-Cast _ _ _ c.args.scope.now c.type_name-to.new.scope c.noted-x-in-Cast.new.scope k x
    z
    c.in-Cast.is (says.of-name c.args.scope.now hk c.get-in-Cast.ensures)
    (each.of-child c.type_name-to.new.scope hx c.get-in-Cast-2.ensures) said)

pub noted-returns-in-Conditional : goal.noted-returns-in-Conditional
noted-returns-in-Conditional t c =
    tried.of_three c.value-c.result c.value-x-in-Conditional.result c.noted-y-in-Conditional.result c.choice.result
    _ _ _ _ _
    (found.valued _ _ _ _ _ c.noted-c.result c.value-c.result c.noted-c.ensures c.get-in-Conditional.ensures
    c.value-c.ensures)
    (found.valued _ _ _ _ _ c.noted-x-in-Conditional.result c.value-x-in-Conditional.result
    c.noted-x-in-Conditional.ensures
    c.get-in-Conditional-2.ensures c.value-x-in-Conditional.ensures)
    c.noted-y-in-Conditional.ensures c.choice.ensures
    (λ u v y z hu hv hy said. each.on-Conditional _ _ _ _ c.args.scope.now c.noted-c.new.scope
    c.noted-x-in-Conditional.new.scope c.noted-y-in-Conditional.new.scope hu.part u hv.part v y z c.in-Conditional.is
    hu.noted hu.is hv.noted hv.is
    (each.of-child c.noted-x-in-Conditional.new.scope hy c.get-in-Conditional-3.ensures) said)

pub noted-returns-in-Call : goal.noted-returns-in-Call
noted-returns-in-Call t c =
    calls.of_call _ _ _ _ _ _ _ c.args.scope.now c.noted-f.new.scope c.all_arguments-parts.new.scope c.noted-f.result
    c.all_arguments-parts.result c.call.result c.in-Call.is c.get-in-Call.ensures c.as_slice-in-Call.ensures
    c.noted-f.ensures c.all_arguments-parts.ensures c.call.ensures

pub all_arguments-loop-item-init : goal.all_arguments-loop-item-init
all_arguments-loop-item-init t c =
    calls.begins c.args.profile.now c.args.items.now c.args.scope.now c.args.callee c.no_arguments_noted-all.result
    c.no_arguments_noted-all.ensures

pub all_arguments-loop-item-preserved : goal.all_arguments-loop-item-preserved
all_arguments-loop-item-preserved t c =
    calls.one_more c.args.profile.now c.args.items.now c.loop-item.item-index c.item-item.result c.get.result.now
    c.args.scope.now c.loop-item.scope c.noted-x.new.scope c.args.callee c.noted-x.result c.value-x.result
    c.loop-item.all c.and_noted-all.result c.loop-item-test.true c.item-item.is c.get.ensures c.noted-x.ensures
    c.value-x.ensures c.and_noted-all.ensures c.loop-item.invariant

pub all_arguments-returns : goal.all_arguments-returns
all_arguments-returns t c =
    calls.all_passed c.args.profile.now c.args.items.now c.loop-item.item-index c.args.scope.now c.loop-item.scope
    c.args.callee c.loop-item.all c.loop-item-test.false c.loop-item.invariant
