use Rattle.bitvectors.proofs.SignalLemmas.{binary-of}
use Rattle.bitvectors.proofs.shapes.blast_binary.Goals as goal

pub returns : goal.returns
returns c = binary-of c.args.gates.now _ c.args.inputs.now c.args.signals.now c.args.operator c.args.width c.args.left c.args.right c.bits_of-a.result.now c.bits_of-b.result.now c.in_ok-word.word c.requires.inputs c.bits_of-a.ensures c.bits_of-b.ensures c.in_ok-word.ensures
