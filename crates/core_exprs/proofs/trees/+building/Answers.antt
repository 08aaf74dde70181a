use Rattle.core_exprs.proofs.EachTree as tree
use Rattle.core_exprs.proofs.PassingLaws as passing
use Rattle.core_exprs.proofs.trees.+building.Goals as goal

pub core_of-returns-in-Integer : goal.core_of-returns-in-Integer
core_of-returns-in-Integer g t c =
    tree.in_integer _ c.integer_constant.result c.in-Integer.at c.in-Integer.constant c.args.scope.now c.in-Integer.is
    (c.integer_constant.ensures _ c.args.scope.now)

pub core_of-returns-in-Character : goal.core_of-returns-in-Character
core_of-returns-in-Character g t c =
    tree.in_character _ c.character_constant.result c.in-Character.at c.in-Character.value c.args.scope.now c.in-Character.is
    (c.character_constant.ensures _ c.args.scope.now)

pub core_of-returns-in-Floating : goal.core_of-returns-in-Floating
core_of-returns-in-Floating g t c =
    tree.in_floating _ c.floating_constant.result c.in-Floating.at c.args.scope.now c.in-Floating.is
    (c.floating_constant.ensures _ c.args.scope.now)

pub core_of-returns-in-StringLiteral : goal.core_of-returns-in-StringLiteral
core_of-returns-in-StringLiteral g t c =
    tree.in_literal _ c.string_literal.result c.in-StringLiteral.at c.as_slice.result.now _ c.args.scope.now
    c.in-StringLiteral.is c.as_slice.ensures c.string_literal.ensures

pub core_of-returns-in-FunctionName : goal.core_of-returns-in-FunctionName
core_of-returns-in-FunctionName g t c =
    tree.in_function_name _ c.function_name.result c.in-FunctionName.at c.args.scope.now c.in-FunctionName.is
    c.function_name.ensures

pub core_of-returns-in-Identifier : goal.core_of-returns-in-Identifier
core_of-returns-in-Identifier g t c =
    tree.in_name _ c.identifier.result c.in-Identifier.at c.in-Identifier.name c.args.scope.now c.in-Identifier.is
    c.identifier.ensures

pub core_of-returns-in-Parenthesized : goal.core_of-returns-in-Parenthesized
core_of-returns-in-Parenthesized g t c =
    tree.in_parentheses _ c.core_of.result _ c.args.scope.now c.core_of.new.scope c.in-Parenthesized.is c.get.ensures
    c.core_of.ensures

pub core_of-returns-in-Member : goal.core_of-returns-in-Member
core_of-returns-in-Member g t c =
    tree.in_member _ c.core_of-x-in-Member.result c.member.result c.in-Member.at c.in-Member.name c.args.scope.now
    c.core_of-x-in-Member.new.scope c.in-Member.is c.get-in-Member.ensures c.core_of-x-in-Member.ensures
    (λ p. c.member.ensures _ p)

pub core_of-returns-in-Arrow : goal.core_of-returns-in-Arrow
core_of-returns-in-Arrow g t c =
    tree.in_arrow _ c.core_of-x-in-Arrow.result c.arrow.result c.in-Arrow.at c.in-Arrow.name c.args.scope.now
    c.core_of-x-in-Arrow.new.scope c.in-Arrow.is c.get-in-Arrow.ensures c.core_of-x-in-Arrow.ensures
    (λ p. c.arrow.ensures _ p)

pub core_of-returns-in-Postfix : goal.core_of-returns-in-Postfix
core_of-returns-in-Postfix g t c =
    tree.in_postfix _ c.core_of-x-in-Postfix.result c.postfix.result c.in-Postfix.at c.in-Postfix.operator c.args.scope.now
    c.core_of-x-in-Postfix.new.scope c.in-Postfix.is c.get-in-Postfix.ensures c.core_of-x-in-Postfix.ensures
    (λ p. c.postfix.ensures _ p)

pub core_of-returns-in-Unary : goal.core_of-returns-in-Unary
core_of-returns-in-Unary g t c =
    tree.in_unary _ c.core_of-x-in-Unary.result c.unary.result c.in-Unary.at c.in-Unary.operator c.args.scope.now
    c.core_of-x-in-Unary.new.scope c.in-Unary.is c.get-in-Unary.ensures c.core_of-x-in-Unary.ensures
    (λ p. c.unary.ensures _ p)

pub core_of-returns-in-SizeofExpr : goal.core_of-returns-in-SizeofExpr
core_of-returns-in-SizeofExpr g t c =
    tree.in_size _ c.typed_part-x.result c.size_of_expression.result c.in-SizeofExpr.at c.args.scope.now
    c.typed_part-x.new.scope c.in-SizeofExpr.is c.get-in-SizeofExpr.ensures c.typed_part-x.ensures
    (λ p. c.size_of_expression.ensures _ p)

pub core_of-returns-in-SizeofType : goal.core_of-returns-in-SizeofType
core_of-returns-in-SizeofType g t c =
    tree.in_type_size _ c.named_type-t.result c.size_of_type.result c.in-SizeofType.at c.args.scope.now
    c.named_type-t.new.scope c.in-SizeofType.is c.get-in-SizeofType.ensures c.named_type-t.ensures
    (c.size_of_type.ensures _)

pub core_of-returns-in-Cast : goal.core_of-returns-in-Cast
core_of-returns-in-Cast g t c =
    tree.in_cast _ c.named_type-to.result c.core_of-x-in-Cast.result c.cast.result c.in-Cast.at c.args.scope.now
    c.named_type-to.new.scope c.core_of-x-in-Cast.new.scope c.in-Cast.is c.get-in-Cast.ensures
    c.get-in-Cast-2.ensures c.named_type-to.ensures c.core_of-x-in-Cast.ensures (λ p. c.cast.ensures _ p)

pub core_of-returns-in-Subscript : goal.core_of-returns-in-Subscript
core_of-returns-in-Subscript g t c =
    tree.in_subscript _ c.core_of-x.result c.used-x.result c.core_of-y.result c.subscript.result
    c.in-Subscript.at c.args.scope.now c.core_of-x.new.scope c.core_of-y.new.scope c.in-Subscript.is
    c.get-in-Subscript.ensures c.get-in-Subscript-2.ensures c.core_of-x.ensures (λ p. c.used-x.ensures _ p)
    c.core_of-y.ensures (λ p q. c.subscript.ensures _ p q)

pub core_of-returns-in-Binary : goal.core_of-returns-in-Binary
core_of-returns-in-Binary g t c =
    tree.in_binary _ c.core_of-x-in-Binary.result c.used-x-in-Binary.result c.core_of-y-in-Binary.result c.binary.result
    c.in-Binary.at c.in-Binary.operator c.args.scope.now c.core_of-x-in-Binary.new.scope c.core_of-y-in-Binary.new.scope c.in-Binary.is
    c.get-in-Binary.ensures c.get-in-Binary-2.ensures c.core_of-x-in-Binary.ensures (λ p. c.used-x-in-Binary.ensures _ p)
    c.core_of-y-in-Binary.ensures (λ p q. c.binary.ensures _ p q)

pub core_of-returns-in-Comma : goal.core_of-returns-in-Comma
core_of-returns-in-Comma g t c =
    tree.in_comma _ c.core_of-x-in-Comma.result c.unused-x.result c.core_of-y-in-Comma.result c.comma.result
    c.in-Comma.at c.args.scope.now c.core_of-x-in-Comma.new.scope c.core_of-y-in-Comma.new.scope c.in-Comma.is
    c.get-in-Comma.ensures c.get-in-Comma-2.ensures c.core_of-x-in-Comma.ensures (λ p. c.unused-x.ensures _ p)
    c.core_of-y-in-Comma.ensures (λ p q. c.comma.ensures _ p q)

pub core_of-returns-in-Assign : goal.core_of-returns-in-Assign
core_of-returns-in-Assign g t c =
    tree.in_assignment _ c.core_of-x-in-Assign.result c.core_of-y-in-Assign.result c.assignment.result
    c.in-Assign.at c.in-Assign.operator c.args.scope.now c.core_of-x-in-Assign.new.scope c.core_of-y-in-Assign.new.scope
    c.in-Assign.is c.get-in-Assign.ensures c.get-in-Assign-2.ensures c.core_of-x-in-Assign.ensures
    c.core_of-y-in-Assign.ensures (λ p q. c.assignment.ensures _ p q)

pub core_of-returns-in-Conditional : goal.core_of-returns-in-Conditional
core_of-returns-in-Conditional g t c =
    tree.in_choice _ c.core_of-c.result c.used-c.result c.core_of-x-in-Conditional.result
    c.used-x-in-Conditional.result c.core_of-y-in-Conditional.result c.choice.result c.in-Conditional.at
    c.args.scope.now c.core_of-c.new.scope c.core_of-x-in-Conditional.new.scope c.core_of-y-in-Conditional.new.scope
    c.in-Conditional.is c.get-in-Conditional.ensures c.get-in-Conditional-2.ensures c.get-in-Conditional-3.ensures
    c.core_of-c.ensures (λ p. c.used-c.ensures _ p) c.core_of-x-in-Conditional.ensures
    (λ p. c.used-x-in-Conditional.ensures _ p) c.core_of-y-in-Conditional.ensures
    (λ o p q. c.choice.ensures _ o p q)

pub core_of-returns-in_ok-xs-in-Call : goal.core_of-returns-in_ok-xs-in-Call
core_of-returns-in_ok-xs-in-Call g t c =
    tree.in_call _ c.call.result c.in-Call.at c.args.scope.now c.typed_part.new.scope c.all_arguments.new.scope
    c.in_ok-f-in-Call.f c.in_ok-xs-in-Call.xs c.in-Call.is c.get-in-Call.ensures c.as_slice-in-Call.ensures
    c.in_ok-f-in-Call.ensures c.in_ok-xs-in-Call.ensures c.call.ensures

pub all_arguments-loop-item-init : goal.all_arguments-loop-item-init
all_arguments-loop-item-init g t c =
    passing.begins _ c.args.faults c.args.items.now c.args.scope.now _ c.nothing_passed-all.ensures

pub all_arguments-loop-item-preserved : goal.all_arguments-loop-item-preserved
all_arguments-loop-item-preserved g t c =
    passing.goes_on _ c.args.faults c.args.items.now c.args.scope.now c.loop-item.item-index c.item-item.result
    c.get.result.now c.loop-item.all c.in_ok-all.all c.loop-item.scope c.core_of.new.scope c.in_ok-x.x
    c.loop-item-test.true c.item-item.is c.get.ensures c.loop-item.invariant c.in_ok-x.ensures
    (λ ps p h k. c.in_ok-all.ensures _ c.args.faults ps p h k)

pub all_arguments-returns : goal.all_arguments-returns
all_arguments-returns g t c =
    passing.ends _ c.args.faults c.args.items.now c.args.scope.now c.loop-item.item-index c.loop-item.all
    c.loop-item.scope c.loop-item-test.false c.loop-item.invariant
