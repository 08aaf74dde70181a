use Rattle.word_gates.proofs.SumLemmas.{Adding}
use Rattle.word_gates.proofs.sums.add_with_carry.Given as goal

abbrev pub invariant-bits : goal.invariant-bits
invariant-bits l = Adding l.fn.gates l.gates l.a l.b l.fn.carry l.index l.word l.carried
