use Rattle.signed_gates.proofs.NetLemmas.{sign-of}
use Rattle.signed_gates.proofs.signs.sign.Goals as goal

pub returns : goal.returns
returns c = sign-of c.args.gates.now c.args.width c.args.a.now c.index-a-a.result c.requires.a c.requires.width c.index-a-a.is
