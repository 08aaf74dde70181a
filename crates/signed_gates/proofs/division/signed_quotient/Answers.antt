use Rattle.signed_gates.proofs.NetLemmas.{signed-quotient-of}
use Rattle.signed_gates.proofs.division.signed_quotient.Goals as goal

pub returns : goal.returns
returns c = signed-quotient-of c.args.gates.now _ _ _ c.args.width c.args.a.now c.args.b.now c.as_slice.result.now c.in_ok-word.word c.in_ok-division.division c.in_ok-negative.negative c.requires.b_width c.in_ok-division.ensures c.in_ok-negative.ensures c.as_slice.ensures c.in_ok-word.ensures
