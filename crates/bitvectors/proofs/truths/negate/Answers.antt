use Rattle.bitvectors.proofs.SignalLemmas.{negate-of}
use Rattle.bitvectors.proofs.truths.negate.Goals as goal

pub returns : goal.returns
returns c = negate-of c.args.gates.now c.args.a.now c.in_ok-word.word c.bit_of-bit.result c.negated.result c.bit_of-bit.ensures c.negated.ensures c.in_ok-word.ensures
