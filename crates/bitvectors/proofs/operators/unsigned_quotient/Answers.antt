use Rattle.bitvectors.proofs.OperatorLemmas.{quotient-of}
use Rattle.bitvectors.proofs.operators.unsigned_quotient.Goals as goal

pub returns : goal.returns
returns c = quotient-of c.args.gates.now _ c.args.width c.args.a.now c.args.b.now c.in_ok-division.division c.requires.a_width c.in_ok-division.ensures
