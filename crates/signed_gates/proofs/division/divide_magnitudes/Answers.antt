use Rattle.signed_gates.proofs.NetLemmas.{divided-of}
use Rattle.signed_gates.proofs.division.divide_magnitudes.Goals as goal

pub returns : goal.returns
returns c = divided-of c.args.gates.now _ _ _ c.args.width c.args.a.now c.args.b.now c.in_ok-one.one c.in_ok-other.other c.as_slice.result.now c.as_slice-2.result.now c.in_ok-division.division c.in_ok-one.ensures c.in_ok-other.ensures c.as_slice.ensures c.as_slice-2.ensures c.in_ok-division.ensures
