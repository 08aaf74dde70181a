use Rattle.bitvectors.proofs.SignalLemmas.{select-of}
use Rattle.bitvectors.proofs.truths.select.Goals as goal

pub returns : goal.returns
returns c = select-of c.args.gates.now _ c.args.condition.now c.args.a.now c.args.b.now c.in_ok-word.word c.bit_of-bit.result c.bit_of-bit.ensures c.in_ok-word.ensures
