use Rattle.signed_gates.proofs.NetLemmas.{magnitude-of}
use Rattle.signed_gates.proofs.signs.magnitude.Goals as goal

pub returns : goal.returns
returns c = magnitude-of c.args.gates.now _ c.args.width c.args.a.now c.in_ok-word.word c.sign-negative.result c.requires.width c.sign-negative.ensures c.in_ok-word.ensures
