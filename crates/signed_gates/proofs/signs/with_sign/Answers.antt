use Rattle.signed_gates.proofs.NetLemmas.{signed-of}
use Rattle.signed_gates.proofs.signs.with_sign.Goals as goal

pub returns : goal.returns
returns c = signed-of c.args.gates.now _ c.args.width c.args.a.now c.in_ok-word.word c.args.negative.now c.requires.width c.in_ok-word.ensures
