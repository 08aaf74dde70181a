use Rattle.std.proofs.Common.{refl, arith}
use Rattle.sl_config.proofs.Steps.{value_more, value_end}
use Rattle.sl_config.proofs.numbers.value_of.Goals as goal

pub bytes-preserved : goal.bytes-preserved
bytes-preserved c = value_more c.bytes.value _ c.args.word.now c.bytes.byte-index _ _ c.bytes-test.true refl c.value_with-value.ensures c.bytes.invariant

pub returns : goal.returns
returns c = value_end c.bytes.value c.args.word.now c.bytes.byte-index _ (omega arith) c.bytes.invariant
