use Rattle.std.proofs.Common.{◌≡◌, ◌++◌, map, take, drop}
use Rattle.proof_check.specs.Marked.{marked}
use Rattle.proof_check.specs.Steps.{clause_of}
use Rattle.proof_check.specs.Propagation.{propagated}
use Rattle.proof_check.proofs.checker.propagate.Given as goal

abbrev pub invariant-loop-hint : goal.invariant-loop-hint
invariant-loop-hint l = record {
  room : l.marks.variables.items ≡ l.fn.marks.variables.items;
  rest : propagated (l.formula ++ map clause_of (take l.earlier l.steps)) (marked l.marks) (drop l.hint-index l.hints) ≡ propagated (l.formula ++ map clause_of (take l.earlier l.steps)) (marked l.fn.marks) l.hints;
}
