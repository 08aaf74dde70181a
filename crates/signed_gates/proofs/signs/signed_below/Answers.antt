use Rattle.signed_gates.proofs.NetLemmas.{signed-less-of}
use Rattle.signed_gates.proofs.signs.signed_below.Goals as goal

pub returns : goal.returns
returns c = signed-less-of c.args.gates.now _ c.args.width c.args.a.now c.args.b.now c.in_ok-one.one c.in_ok-other.other c.as_slice.result.now c.as_slice-2.result.now c.in_ok-less.less c.requires.a_width c.requires.b_width c.as_slice.ensures c.as_slice-2.ensures c.in_ok-one.ensures c.in_ok-other.ensures c.in_ok-less.ensures
