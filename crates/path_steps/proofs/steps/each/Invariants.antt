use Rattle.std.proofs.Common.{take}
use Rattle.path_steps.specs.Leaves.{WalksBy}
use Rattle.path_steps.proofs.steps.each.Given as goal

abbrev pub invariant-loop-state : goal.invariant-loop-state
invariant-loop-state l = WalksBy l.initial.bank l.bank (take l.state-index l.states) l.leaf l.walked
