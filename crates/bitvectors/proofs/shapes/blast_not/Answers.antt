use Rattle.bitvectors.proofs.SignalLemmas.{not-of}
use Rattle.bitvectors.proofs.shapes.blast_not.Goals as goal

pub returns : goal.returns
returns c = not-of c.args.gates.now c.args.inputs.now c.args.signals.now c.args.operand c.bits_of.result.now c.in_ok-word.word c.requires.inputs c.bits_of.ensures c.in_ok-word.ensures
