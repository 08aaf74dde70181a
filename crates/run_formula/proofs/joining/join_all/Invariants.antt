use Rattle.std.proofs.Common.{take}
use Rattle.run_formula.specs.Sighted.{JoinsAll}
use Rattle.run_formula.proofs.joining.join_all.Given as goal

abbrev pub invariant-pairs : goal.invariant-pairs
invariant-pairs l = JoinsAll l.fn.bank l.bank l.how (take l.index l.ones) (take l.index l.others) l.all
