use Rattle.std.proofs.Common.{◌≡◌, drop}
use Rattle.c_reach.specs.Reaching.{step, steps, all_called, begun}
use Rattle.c_reach.proofs.search.reached.Given as goal

abbrev pub invariant-loop-function : goal.invariant-loop-function
invariant-loop-function l =
    steps l.profile l.named (all_called (drop l.function-index l.functions)) l.state
    ≡ steps l.profile l.named (all_called l.functions) (step l.profile l.named (step l.profile l.named begun))
