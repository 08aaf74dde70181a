use Rattle.std.proofs.Common.{refl}
use Rattle.bitvectors.proofs.SignalLemmas.{initial-byte-of}
use Rattle.bitvectors.proofs.inputs.Inputs.initial_byte.Goals as goal

pub returns : goal.returns
returns c = initial-byte-of c.args.gates.now _ c.args.self.now _ c.args.address.now c.in_ok-byte.byte c.requires.inputs c.in_ok-byte.ensures refl
