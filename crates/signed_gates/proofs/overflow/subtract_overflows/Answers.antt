use Rattle.signed_gates.proofs.NetLemmas.{opposites-stand, subtract-over-of}
use Rattle.signed_gates.proofs.overflow.subtract_overflows.Goals as goal

pub sum_overflows-requires-clause-b : goal.sum_overflows-requires-clause-b
sum_overflows-requires-clause-b c = opposites-stand c.args.gates.now c.args.b.now c.as_slice.result.now c.in_ok-opposites.opposites c.requires.b c.as_slice.ensures c.in_ok-opposites.ensures

pub returns : goal.returns
returns c = subtract-over-of c.args.gates.now _ c.args.width c.args.a.now c.args.b.now c.as_slice.result.now c.in_ok-opposites.opposites c.in_ok-leaves.leaves c.requires.b_width c.as_slice.ensures c.in_ok-opposites.ensures c.in_ok-leaves.ensures
