use Rattle.std.proofs.Common.{◌≡◌, ◌+◌, ◌++◌, map, take, drop}
use Rattle.proof_check.specs.Steps.{clause_of}
use Rattle.proof_check.specs.Refutations.{first_fault}
use Rattle.proof_check.proofs.checker.first_fault_of.Given as goal

abbrev pub invariant-loop-index : goal.invariant-loop-index
invariant-loop-index l = record {
  room : l.marks.variables.items ≡ l.fn.marks.variables.items;
  rest : first_fault (l.formula ++ map clause_of (take l.index l.steps)) (l.index + 1) (drop l.index l.steps) ≡ first_fault l.formula 1 l.steps;
}
