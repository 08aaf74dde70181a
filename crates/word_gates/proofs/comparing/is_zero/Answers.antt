use Rattle.word_gates.proofs.CompareLemmas.{zero-more, zero-whole}
use Rattle.word_gates.proofs.comparing.is_zero.Goals as goal

pub bits-preserved : goal.bits-preserved
bits-preserved c = zero-more c.args.gates.now c.bits.gates _ c.args.a.now c.bits.index c.bits.zero c.negated.result c.in_ok-zero.zero c.index-a-index.result c.bits-test.true c.index-a-index.is c.bits.invariant c.negated.ensures c.in_ok-zero.ensures

pub returns : goal.returns
returns c = zero-whole c.args.gates.now c.bits.gates c.args.a.now c.bits.index c.bits.zero c.bits-test.false c.bits.invariant
