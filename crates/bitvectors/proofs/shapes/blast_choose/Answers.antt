use Rattle.bitvectors.proofs.SignalLemmas.{choice-of}
use Rattle.bitvectors.proofs.shapes.blast_choose.Goals as goal

pub returns : goal.returns
returns c = choice-of c.args.gates.now _ c.args.inputs.now c.args.signals.now c.args.sort c.args.condition c.args.yes c.args.no c.bits_of.result.now c.bits_of-a.result.now c.bits_of-b.result.now c.in_ok-word.word c.requires.inputs c.requires.parts.1.0 c.bits_of.ensures c.bits_of-a.ensures c.bits_of-b.ensures c.in_ok-word.ensures
