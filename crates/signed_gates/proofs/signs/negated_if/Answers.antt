use Rattle.signed_gates.proofs.NetLemmas.{negated-of}
use Rattle.signed_gates.proofs.signs.negated_if.Goals as goal

pub returns : goal.returns
returns c = negated-of c.args.gates.now _ _ c.args.condition.now c.args.a.now c.in_ok-zeros.zeros c.as_slice.result.now c.in_ok-opposite.opposite c.as_slice-2.result.now c.in_ok-word.word c.as_slice.ensures c.in_ok-zeros.ensures c.in_ok-opposite.ensures c.as_slice-2.ensures c.in_ok-word.ensures
