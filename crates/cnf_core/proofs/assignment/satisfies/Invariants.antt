use Rattle.std.proofs.Common.{◌≡◌, true, take}
use Rattle.cnf_core.specs.Truth.{value_of, formula_holds}
use Rattle.cnf_core.proofs.assignment.satisfies.Given as goal

abbrev pub invariant-loop-index : goal.invariant-loop-index
invariant-loop-index l = formula_holds (value_of l.values) (take l.index l.formula) ≡ true
