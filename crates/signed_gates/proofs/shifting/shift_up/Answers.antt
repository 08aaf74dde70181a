use Rattle.signed_gates.proofs.NetLemmas.{up-of}
use Rattle.signed_gates.proofs.shifting.shift_up.Goals as goal

pub returns : goal.returns
returns c = up-of c.args.gates.now _ c.args.width c.args.a.now c.args.by.now c.in_ok-word.word c.requires.a_width c.in_ok-word.ensures
