use Rattle.bitvectors.proofs.SignalLemmas.{flag-of}
use Rattle.bitvectors.proofs.leaves.blast_flag.Goals as goal

pub returns : goal.returns
returns c = flag-of c.args.gates.now c.args.inputs.now c.args.signals.now c.args.truth c.in_ok-word.word c.requires.inputs c.in_ok-word.ensures
