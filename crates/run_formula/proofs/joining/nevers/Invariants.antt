use Rattle.run_formula.specs.Sighted.{Nevers}
use Rattle.run_formula.proofs.joining.nevers.Given as goal

abbrev pub invariant-nodes : goal.invariant-nodes
invariant-nodes l = Nevers l.fn.bank l.bank l._index l.all
