use Rattle.std.proofs.Common.{arith}
use Rattle.c_lexer.proofs.Values.{one_more}
use Rattle.c_lexer.proofs.number.value_of.Goals as goal

pub returns-in_err-checked_mul : goal.returns-in_err-checked_mul
returns-in_err-checked_mul c =
    let more = one_more c.args.base c.requires c.loop-digit.value c.args.digits.now c.loop-digit.digit-index
    c.loop-digit-test.true in
    rw c.from_residual.ensures (λ small. c.in_err-checked_mul.ensures (omega (arith, more, c.loop-digit.invariant.0)))

pub returns-in_err-value : goal.returns-in_err-value
returns-in_err-value c =
    let more = one_more c.args.base c.requires c.loop-digit.value c.args.digits.now c.loop-digit.digit-index
    c.loop-digit-test.true in
    rw c.from_residual-in_err-value.ensures
    (λ small. c.in_err-value.ensures
    (omega (
      arith,
      more,
      c.loop-digit.invariant.0,
      c.in_ok-checked_mul.ensures,
      c.from.ensures,
      c.digit_of.ensures.value,
    )))
