use Rattle.std.specs.Prelude.{nat_le}
use Rattle.word_gates.proofs.CompareLemmas.{at_most-more, compared-whole}
use Rattle.word_gates.proofs.comparing.at_most.Goals as goal

pub bits-preserved : goal.bits-preserved
bits-preserved c = at_most-more c.args.gates.now c.bits.gates _ c.args.a.now c.args.b.now c.bits.index c.bits.carried c.negated.result c.in_ok-carried.carried c.index-a-index.result c.index-b-index.result c.requires.width c.bits-test.true c.index-a-index.is c.index-b-index.is c.bits.invariant c.negated.ensures c.in_ok-carried.ensures

pub returns : goal.returns
returns c = compared-whole c.args.gates.now c.bits.gates nat_le c.args.a.now c.args.b.now c.bits.index c.bits.carried c.requires.width c.bits-test.false c.bits.invariant
