use Rattle.std.proofs.Common.{refl}
use Rattle.bitvectors.proofs.SignalLemmas.{world-word-of}
use Rattle.bitvectors.proofs.inputs.Inputs.world_word.Goals as goal

pub returns : goal.returns
returns c = world-word-of c.args.gates.now _ c.args.self.now _ c.args.place.now c.in_ok-whole.whole c.as_slice.result.now c.in_ok-word.word c.args.width c.bits.result c.requires.inputs c.in_ok-whole.ensures refl c.bits.ensures c.as_slice.ensures c.in_ok-word.ensures
