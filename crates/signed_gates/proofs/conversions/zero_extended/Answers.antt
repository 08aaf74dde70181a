use Rattle.signed_gates.proofs.NetLemmas.{zero-extended-of}
use Rattle.signed_gates.proofs.conversions.zero_extended.Goals as goal

pub returns : goal.returns
returns c = zero-extended-of c.args.gates.now c.args.from c.args.to c.args.a.now c.in_ok-word.word c.bits.result c.bits.ensures c.requires.a c.in_ok-word.ensures
