use Rattle.signed_gates.proofs.NetLemmas.{differ-of}
use Rattle.signed_gates.proofs.signs.signs_differ.Goals as goal

pub returns : goal.returns
returns c = differ-of c.args.gates.now _ c.args.width c.args.a.now c.args.b.now c.sign-one.result c.sign-other.result c.in_ok-differ.differ c.sign-one.ensures c.sign-other.ensures c.in_ok-differ.ensures
