use Rattle.bitvectors.proofs.SignalLemmas.{convert-of}
use Rattle.bitvectors.proofs.shapes.blast_convert.Goals as goal

pub returns : goal.returns
returns c = convert-of c.args.gates.now c.args.inputs.now c.args.signals.now c.args.extension c.args.from c.args.to c.args.operand c.bits_of.result.now c.in_ok-word.word c.requires.inputs c.bits_of.ensures c.in_ok-word.ensures
