use Rattle.bitvectors.proofs.SignalLemmas.{one-bit-of}
use Rattle.bitvectors.proofs.truths.one_bit.Goals as goal

pub returns : goal.returns
returns c = one-bit-of c.args.gates.now c.args.bit c.no_bits-word.result _ c.requires c.no_bits-word.ensures c.in_ok-push.ensures.ok
