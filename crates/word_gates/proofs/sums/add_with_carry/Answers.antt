use Rattle.std.proofs.Common.{◌≡◌, arith, length}
use Rattle.word_gates.proofs.SumLemmas.{adding-more, adding-end}
use Rattle.word_gates.proofs.sums.add_with_carry.Goals as goal

pub bits-preserved : goal.bits-preserved
bits-preserved c = adding-more c.args.gates.now c.bits.gates _ c.args.a.now c.args.b.now c.args.carry c.bits.index c.bits.word _ c.bits.carried c.in_ok-sum.sum c.index-a-index.result c.index-b-index.result c.bits.invariant c.requires.width c.bits-test.true c.index-a-index.is c.index-b-index.is c.in_ok-sum.ensures c.in_ok-push.ensures.ok

pub returns : goal.returns
returns c =
    let at_end : c.bits.index ≡ length c.args.a.now = omega arith in
    adding-end c.args.gates.now c.bits.gates c.args.a.now c.args.b.now c.args.carry c.bits.index c.bits.word c.bits.carried c.bits.invariant at_end c.requires.width
