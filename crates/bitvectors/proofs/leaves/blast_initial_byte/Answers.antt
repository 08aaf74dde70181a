use Rattle.bitvectors.proofs.SignalLemmas.{byte-of}
use Rattle.bitvectors.proofs.leaves.blast_initial_byte.Goals as goal

pub returns : goal.returns
returns c = byte-of c.args.gates.now _ c.args.inputs.now _ c.args.signals.now c.args.row c.args.address c.bits_of.result.now c.in_ok-byte.byte c.bits_of.ensures c.in_ok-byte.ensures
