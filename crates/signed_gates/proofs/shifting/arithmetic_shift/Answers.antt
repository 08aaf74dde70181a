use Rattle.signed_gates.proofs.NetLemmas.{arithmetic-of}
use Rattle.signed_gates.proofs.shifting.arithmetic_shift.Goals as goal

pub returns : goal.returns
returns c = arithmetic-of c.args.gates.now _ c.args.width c.args.a.now c.args.by.now c.in_ok-word.word c.sign-negative.result c.requires.a_width c.sign-negative.ensures c.in_ok-word.ensures
