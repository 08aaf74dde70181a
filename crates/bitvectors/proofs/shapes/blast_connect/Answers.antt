use Rattle.bitvectors.proofs.SignalLemmas.{connective-of}
use Rattle.bitvectors.proofs.shapes.blast_connect.Goals as goal

pub returns : goal.returns
returns c = connective-of c.args.gates.now _ c.args.inputs.now c.args.signals.now c.args.connective c.args.left c.args.right c.bits_of-a.result.now c.bits_of-b.result.now c.in_ok-word.word c.requires.inputs c.bits_of-a.ensures c.bits_of-b.ensures c.in_ok-word.ensures
