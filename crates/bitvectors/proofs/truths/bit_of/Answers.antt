use Rattle.bitvectors.proofs.SignalLemmas.{bit-of}
use Rattle.bitvectors.proofs.truths.bit_of.Goals as goal

pub returns : goal.returns
returns c = bit-of c.args.gates.now c.args.word.now c.index-word-0.result c.requires.word c.requires.width c.index-word-0.is
