use Rattle.word_gates.proofs.QuotientLemmas.{Dividing}
use Rattle.word_gates.proofs.quotients.divide_fully.Given as goal

abbrev pub invariant-bits : goal.invariant-bits
invariant-bits l = Dividing l.fn.gates l.gates l.a l.b l.index l.division
