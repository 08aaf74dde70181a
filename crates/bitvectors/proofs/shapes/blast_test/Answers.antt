use Rattle.bitvectors.proofs.SignalLemmas.{test-of}
use Rattle.bitvectors.proofs.shapes.blast_test.Goals as goal

pub returns : goal.returns
returns c = test-of c.args.gates.now _ c.args.inputs.now c.args.signals.now c.args.test c.args.width c.args.left c.args.right c.bits_of-a.result.now c.bits_of-b.result.now c.in_ok-word.word c.in_ok-bit.bit c.requires.inputs c.bits_of-a.ensures c.bits_of-b.ensures c.in_ok-bit.ensures c.in_ok-word.ensures
