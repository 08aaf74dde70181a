use Rattle.bitvectors.proofs.SignalLemmas.{constant-of}
use Rattle.bitvectors.proofs.leaves.blast_constant.Goals as goal

pub returns : goal.returns
returns c = constant-of c.args.gates.now c.args.inputs.now c.args.signals.now c.args.value c.bits.result c.args.width c.in_ok-word.word c.requires.inputs c.requires.within c.bits.ensures c.in_ok-word.ensures
