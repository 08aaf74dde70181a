use Rattle.gates.proofs.BitLemmas.{or-of}
use Rattle.gates.proofs.gates.Gates.or.Goals as goal

pub returns : goal.returns
returns c = or-of c.args.self.now _ c.args.a c.args.b c.negated.result c.negated-2.result c.in_ok-neither.neither _ c.negated.ensures c.negated-2.ensures c.negated-3.ensures c.in_ok-neither.ensures
