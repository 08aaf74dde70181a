use Rattle.bitvectors.proofs.OperatorLemmas.{bitwise-of}
use Rattle.bitvectors.proofs.operators.operate_bitwise.Goals as goal

pub returns : goal.returns
returns c = bitwise-of c.args.gates.now _ c.args.operator c.args.a.now c.args.b.now c.in_ok-word.word c.requires.width c.in_ok-word.ensures
