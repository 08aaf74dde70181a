use Rattle.std.proofs.Common.{◌≡◌, ◌++◌, drop}
use Rattle.assumptions.proofs.asking.identity_copy.Given as goal

abbrev pub invariant-loop-function : goal.invariant-loop-function
invariant-loop-function l = l.copy ++ drop l.function-index l.functions ≡ l.functions
