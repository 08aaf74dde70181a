use Rattle.bitvectors.proofs.SignalLemmas.{connect-of}
use Rattle.bitvectors.proofs.truths.connect.Goals as goal

pub returns : goal.returns
returns c = connect-of c.args.gates.now _ c.args.connective c.args.a.now c.args.b.now c.in_ok-word.word c.bit_of-one.result c.bit_of-other.result c.in_ok-bit.bit c.bit_of-one.ensures c.bit_of-other.ensures c.in_ok-bit.ensures c.in_ok-word.ensures
