use Rattle.signed_gates.proofs.NetLemmas.{signed-remainder-of}
use Rattle.signed_gates.proofs.division.signed_remainder.Goals as goal

pub returns : goal.returns
returns c = signed-remainder-of c.args.gates.now _ _ c.args.width c.args.a.now c.args.b.now c.as_slice.result.now c.in_ok-word.word c.in_ok-division.division c.sign-negative.result c.requires.b_width c.in_ok-division.ensures c.sign-negative.ensures c.as_slice.ensures c.in_ok-word.ensures
