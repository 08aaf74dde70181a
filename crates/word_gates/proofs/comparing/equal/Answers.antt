use Rattle.std.specs.Prelude.{nat_eq}
use Rattle.word_gates.proofs.CompareLemmas.{equal-more, compared-whole}
use Rattle.word_gates.proofs.comparing.equal.Goals as goal

pub bits-preserved : goal.bits-preserved
bits-preserved c = equal-more c.args.gates.now c.bits.gates _ _ c.args.a.now c.args.b.now c.bits.index c.bits.same c.in_ok-differ.differ c.negated.result c.in_ok-same.same c.index-a-index.result c.index-b-index.result c.requires.width c.bits-test.true c.index-a-index.is c.index-b-index.is c.bits.invariant c.in_ok-differ.ensures c.negated.ensures c.in_ok-same.ensures

pub returns : goal.returns
returns c = compared-whole c.args.gates.now c.bits.gates nat_eq c.args.a.now c.args.b.now c.bits.index c.bits.same c.requires.width c.bits-test.false c.bits.invariant
