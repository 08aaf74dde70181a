use Rattle.std.proofs.Common.{arith}
use Rattle.c_heights.proofs.Heights as heights
use Rattle.c_heights.proofs.expr.+heights.Goals as goal

pub expr_height-returns-in-Integer : goal.expr_height-returns-in-Integer
expr_height-returns-in-Integer t c = grind (arith, heights.shape-Integer _ _ c.in-Integer.is)

pub expr_height-returns-in-Floating : goal.expr_height-returns-in-Floating
expr_height-returns-in-Floating t c = grind (arith, heights.shape-Floating _ c.in-Floating.is)

pub expr_height-returns-in-Character : goal.expr_height-returns-in-Character
expr_height-returns-in-Character t c = grind (arith, heights.shape-Character _ _ c.in-Character.is)

pub expr_height-returns-in-StringLiteral : goal.expr_height-returns-in-StringLiteral
expr_height-returns-in-StringLiteral t c = grind (arith, heights.shape-StringLiteral _ _ c.in-StringLiteral.is)

pub expr_height-returns-in-FunctionName : goal.expr_height-returns-in-FunctionName
expr_height-returns-in-FunctionName t c = grind (arith, heights.shape-FunctionName _ c.in-FunctionName.is)

pub expr_height-returns-in-Identifier : goal.expr_height-returns-in-Identifier
expr_height-returns-in-Identifier t c = grind (arith, heights.shape-Identifier _ _ c.in-Identifier.is)

pub expr_height-returns-in-Parenthesized : goal.expr_height-returns-in-Parenthesized
expr_height-returns-in-Parenthesized t c = grind (arith, heights.shape-Parenthesized _ _ c.in-Parenthesized.is)

pub expr_height-returns-in-Subscript : goal.expr_height-returns-in-Subscript
expr_height-returns-in-Subscript t c = grind (arith, heights.shape-Subscript _ _ _ c.in-Subscript.is)

pub expr_height-returns-in-Call : goal.expr_height-returns-in-Call
expr_height-returns-in-Call t c = grind (arith, heights.shape-Call _ _ _ c.in-Call.is)

pub expr_height-returns-in-Member : goal.expr_height-returns-in-Member
expr_height-returns-in-Member t c = grind (arith, heights.shape-Member _ _ _ c.in-Member.is)

pub expr_height-returns-in-Arrow : goal.expr_height-returns-in-Arrow
expr_height-returns-in-Arrow t c = grind (arith, heights.shape-Arrow _ _ _ c.in-Arrow.is)

pub expr_height-returns-in-Postfix : goal.expr_height-returns-in-Postfix
expr_height-returns-in-Postfix t c = grind (arith, heights.shape-Postfix _ _ _ c.in-Postfix.is)

pub expr_height-returns-in-Unary : goal.expr_height-returns-in-Unary
expr_height-returns-in-Unary t c = grind (arith, heights.shape-Unary _ _ _ c.in-Unary.is)

pub expr_height-returns-in-SizeofExpr : goal.expr_height-returns-in-SizeofExpr
expr_height-returns-in-SizeofExpr t c = grind (arith, heights.shape-SizeofExpr _ _ c.in-SizeofExpr.is)

pub expr_height-returns-in-SizeofType : goal.expr_height-returns-in-SizeofType
expr_height-returns-in-SizeofType t c = grind (arith, heights.shape-SizeofType _ _ c.in-SizeofType.is)

pub expr_height-returns-in-Cast : goal.expr_height-returns-in-Cast
expr_height-returns-in-Cast t c = grind (arith, heights.shape-Cast _ _ _ c.in-Cast.is)

pub expr_height-returns-in-Binary : goal.expr_height-returns-in-Binary
expr_height-returns-in-Binary t c = grind (arith, heights.shape-Binary _ _ _ _ c.in-Binary.is)

pub expr_height-returns-in-Conditional : goal.expr_height-returns-in-Conditional
expr_height-returns-in-Conditional t c = grind (arith, heights.shape-Conditional _ _ _ _ c.in-Conditional.is)

pub expr_height-returns-in-Assign : goal.expr_height-returns-in-Assign
expr_height-returns-in-Assign t c = grind (arith, heights.shape-Assign _ _ _ _ c.in-Assign.is)

pub expr_height-returns-in-Comma : goal.expr_height-returns-in-Comma
expr_height-returns-in-Comma t c = grind (arith, heights.shape-Comma _ _ _ c.in-Comma.is)

pub declarator_height-returns-in-Name : goal.declarator_height-returns-in-Name
declarator_height-returns-in-Name t c = grind (arith, heights.form-Name _ _ c.in-Name.is)

pub declarator_height-returns-in-Omitted : goal.declarator_height-returns-in-Omitted
declarator_height-returns-in-Omitted t c = grind (arith, heights.form-Omitted c.in-Omitted.is)

pub declarator_height-returns-in-Grouped : goal.declarator_height-returns-in-Grouped
declarator_height-returns-in-Grouped t c = grind (arith, heights.form-Grouped _ _ c.in-Grouped.is)

pub declarator_height-returns-in-Pointer : goal.declarator_height-returns-in-Pointer
declarator_height-returns-in-Pointer t c = grind (arith, heights.form-Pointer _ _ _ c.in-Pointer.is)

pub declarator_height-returns-in-Array : goal.declarator_height-returns-in-Array
declarator_height-returns-in-Array t c = grind (arith, heights.form-Array _ _ _ _ c.in-Array.is)

pub declarator_height-returns-in-Function : goal.declarator_height-returns-in-Function
declarator_height-returns-in-Function t c = grind (arith, heights.form-Function _ _ _ _ c.in-Function.is)

pub specifier_height-returns-in-Storage : goal.specifier_height-returns-in-Storage
specifier_height-returns-in-Storage t c = grind (arith, heights.specifier-Storage _ _ c.in-Storage.is)

pub specifier_height-returns-in-Qualifier : goal.specifier_height-returns-in-Qualifier
specifier_height-returns-in-Qualifier t c = grind (arith, heights.specifier-Qualifier _ _ c.in-Qualifier.is)

pub specifier_height-returns-in-Inline : goal.specifier_height-returns-in-Inline
specifier_height-returns-in-Inline t c = grind (arith, heights.specifier-Inline _ c.in-Inline.is)

pub specifier_height-returns-in-Word : goal.specifier_height-returns-in-Word
specifier_height-returns-in-Word t c = grind (arith, heights.specifier-Word _ _ c.in-Word.is)

pub specifier_height-returns-in-Typedef : goal.specifier_height-returns-in-Typedef
specifier_height-returns-in-Typedef t c = grind (arith, heights.specifier-Typedef _ _ c.in-Typedef.is)

pub specifier_height-returns-in-Tag : goal.specifier_height-returns-in-Tag
specifier_height-returns-in-Tag t c = grind (arith, heights.specifier-Tag _ _ _ c.in-Tag.is)

pub specifier_height-returns-in-EnumTag : goal.specifier_height-returns-in-EnumTag
specifier_height-returns-in-EnumTag t c = grind (arith, heights.specifier-EnumTag _ _ c.in-EnumTag.is)

pub specifier_height-returns-in-Aggregate : goal.specifier_height-returns-in-Aggregate
specifier_height-returns-in-Aggregate t c = grind (arith, heights.specifier-Aggregate _ _ _ _ c.in-Aggregate.is)

pub specifier_height-returns-in-Enumeration : goal.specifier_height-returns-in-Enumeration
specifier_height-returns-in-Enumeration t c = grind (arith, heights.specifier-Enumeration _ _ _ _ c.in-Enumeration.is)

pub field_height-returns-in-Plain : goal.field_height-returns-in-Plain
field_height-returns-in-Plain t c = grind (arith, heights.field-Plain _ c.in-Plain.is)

pub field_height-returns-in-Bits : goal.field_height-returns-in-Bits
field_height-returns-in-Bits t c = grind (arith, heights.field-Bits _ _ _ c.in-Bits.is)

pub member_height-returns : goal.member_height-returns
member_height-returns t c = grind (arith, heights.member-is c.args.m.now)

pub enumerator_height-returns : goal.enumerator_height-returns
enumerator_height-returns t c = grind (arith, heights.enumerator-is c.args.e.now)

pub parameter_height-returns : goal.parameter_height-returns
parameter_height-returns t c = grind (arith, heights.parameter-is c.args.p.now)

pub type_name_height-returns : goal.type_name_height-returns
type_name_height-returns t c = grind (arith, heights.type-name-is c.args.t.now)
