use Rattle.std.proofs.Common.{◌≡◌, ◌++◌, map, take}
use Rattle.proof_check.proofs.checker.push_variables.Given as goal

abbrev pub invariant-loop-literal : goal.invariant-loop-literal
invariant-loop-literal l = l.variables.items ≡ l.fn.variables.items ++ map (λ k. k.variable) (take l.literal-index l.literals)
