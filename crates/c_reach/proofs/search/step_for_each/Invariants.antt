use Rattle.std.proofs.Common.{◌≡◌, drop, length}
use Rattle.c_reach.specs.Reaching.{steps}
use Rattle.c_reach.proofs.search.step_for_each.Given as goal

abbrev pub invariant-loop-name : goal.invariant-loop-name
invariant-loop-name l =
    steps l.profile l.named (length (drop l._name-index l.names)) l.state
    ≡ steps l.profile l.named (length l.names) l.fn.state
