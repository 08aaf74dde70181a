use Rattle.bitvectors.proofs.SignalLemmas.{world-of}
use Rattle.bitvectors.proofs.leaves.blast_world_word.Goals as goal

pub returns : goal.returns
returns c = world-of c.args.gates.now _ c.args.inputs.now _ c.args.signals.now c.args.width c.args.place c.bits_of.result.now c.in_ok-word.word c.bits_of.ensures c.in_ok-word.ensures
