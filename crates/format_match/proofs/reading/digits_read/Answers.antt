use Rattle.std.proofs.Common.{◌^◌, ◌∙◌, refl, arith}
use Rattle.format_match.proofs.Numbers.{read_more, read_all}
use Rattle.format_match.proofs.reading.digits_read.Goals as goal

pub bytes-init : goal.bytes-init
bytes-init c = (refl, omega arith)

pub bytes-preserved : goal.bytes-preserved
bytes-preserved c =
    (read_more (2 ^ 64) c.args.base c.bytes.number _ c.bytes.byte-index _ c.args.slice.now c.bytes-test.true refl c.with_byte-number.ensures.value ∙ c.bytes.invariant.0, c.with_byte-number.ensures.below)

pub returns : goal.returns
returns c = read_all (2 ^ 64) c.args.base c.bytes.number c.bytes.byte-index _ c.args.slice.now (omega arith) c.bytes.invariant.1 c.bytes.invariant.0
