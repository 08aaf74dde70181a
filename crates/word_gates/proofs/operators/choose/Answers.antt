use Rattle.std.proofs.Common.{◌≡◌, arith, length}
use Rattle.word_gates.proofs.WordLemmas.{choose-more, choose-whole}
use Rattle.word_gates.proofs.operators.choose.Goals as goal

pub bits-preserved : goal.bits-preserved
bits-preserved c = choose-more c.args.gates.now c.bits.gates _ c.args.condition.now c.args.a.now c.args.b.now c.bits.index c.bits.word _ c.in_ok-bit.bit c.index-a-index.result c.index-b-index.result c.requires.width c.bits-test.true c.index-a-index.is c.index-b-index.is c.bits.invariant c.in_ok-bit.ensures c.in_ok-push.ensures.ok

pub returns : goal.returns
returns c =
    let at_end : c.bits.index ≡ length c.args.a.now = omega arith in
    choose-whole c.args.gates.now c.bits.gates c.args.condition.now c.args.a.now c.args.b.now c.bits.index c.bits.word c.requires.width at_end c.bits.invariant
