use Rattle.std.proofs.Common.{◌≡◌, ◌++◌, drop}
use Rattle.assumptions.specs.Noted.{called_outside}
use Rattle.assumptions.proofs.outside.called_outside.Given as goal

abbrev pub invariant-loop-function : goal.invariant-loop-function
invariant-loop-function l =
    l.names ++ called_outside l.asked l.named (drop l.function-index l.functions)
    ≡ called_outside l.asked l.named l.functions
