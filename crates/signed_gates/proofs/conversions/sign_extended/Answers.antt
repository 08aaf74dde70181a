use Rattle.signed_gates.proofs.NetLemmas.{sign-extended-of}
use Rattle.signed_gates.proofs.conversions.sign_extended.Goals as goal

pub returns : goal.returns
returns c = sign-extended-of c.args.gates.now c.args.from c.args.to c.args.a.now c.in_ok-word.word c.bits.result c.sign-negative.result c.bits.ensures c.requires.a c.requires.width c.sign-negative.ensures c.in_ok-word.ensures
