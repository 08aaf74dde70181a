use Rattle.word_gates.proofs.QuotientLemmas.{division-of}
use Rattle.word_gates.proofs.quotients.divide.Goals as goal

pub returns : goal.returns
returns c =
    division-of c.args.gates.now _ _ _ _ c.args.a.now c.args.b.now c.in_ok-division.division c.in_ok-none.none c.in_ok-zeros.zeros c.as_slice.result.now c.as_slice-3.result.now c.as_slice-2.result.now c.as_slice-4.result.now c.in_ok-quotient.quotient c.in_ok-remainder.remainder c.requires.width c.in_ok-division.ensures c.in_ok-none.ensures c.in_ok-zeros.ensures c.as_slice.ensures c.as_slice-3.ensures c.as_slice-2.ensures c.as_slice-4.ensures c.in_ok-quotient.ensures c.in_ok-remainder.ensures
