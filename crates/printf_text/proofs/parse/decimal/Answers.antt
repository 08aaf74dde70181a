use Rattle.std.proofs.Common.{◌+◌, get_or, refl, arith}
use Rattle.printf_text.proofs.Reading.{decimal_more, decimal_grows}
use Rattle.printf_text.proofs.parse.decimal.Goals as goal

pub returns-then-value-gt-MAX_SIZE : goal.returns-then-value-gt-MAX_SIZE
returns-then-value-gt-MAX_SIZE c =
    let ds = c.args.digits.now in
    let i = c.loop-digit.digit-index in
    let more = decimal_more ds i (get_or ds i 0) c.loop-digit-test.true refl (c.requires i 0 c.loop-digit-test.true) in
    let grows = decimal_grows (i + 1) ds in
    omega (arith, c.from.ensures)

pub loop-digit-preserved : goal.loop-digit-preserved
loop-digit-preserved c =
    let ds = c.args.digits.now in
    let i = c.loop-digit.digit-index in
    let more = decimal_more ds i (get_or ds i 0) c.loop-digit-test.true refl (c.requires i 0 c.loop-digit-test.true) in
    (omega (arith, c.from.ensures), omega arith)
