use Rattle.std.proofs.Common.{◌≡◌, ◌++◌, drop}
use Rattle.assumptions.specs.Noted.{outside_calls}
use Rattle.assumptions.proofs.outside.push_calls.Given as goal

abbrev pub invariant-loop-call : goal.invariant-loop-call
invariant-loop-call l =
    l.names ++ outside_calls l.asked l.named (drop l.call-index l.calls)
    ≡ l.fn.names ++ outside_calls l.asked l.named l.calls
