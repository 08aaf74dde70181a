use Rattle.signed_gates.proofs.NetLemmas.{add-over-of}
use Rattle.signed_gates.proofs.overflow.add_overflows.Goals as goal

pub returns : goal.returns
returns c = add-over-of c.args.gates.now _ c.args.width c.args.a.now c.args.b.now c.in_ok-leaves.leaves c.in_ok-leaves.ensures
