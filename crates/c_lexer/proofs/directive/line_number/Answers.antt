use Rattle.std.proofs.Common.{arith}
use Rattle.c_lexer.proofs.Values.{value_small}
use Rattle.c_lexer.proofs.directive.line_number.Goals as goal

pub overflow_cast-result : goal.overflow_cast-result
overflow_cast-result c = omega (arith, c.in-Some.ensures.1, value_small c.args.digits.now c.if-digits-gt9.false)

pub returns-in-Some-clause-small : goal.returns-in-Some-clause-small
returns-in-Some-clause-small c = omega (arith, c.in-Some.ensures.1, value_small c.args.digits.now c.if-digits-gt9.false)

pub returns-in-None : goal.returns-in-None
returns-in-None c =
    let small = value_small c.args.digits.now c.if-digits-gt9.false in
    absurd (c.in-None.ensures (omega (arith, small)))
