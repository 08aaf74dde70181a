use Rattle.std.proofs.Common.{take}
use Rattle.path_steps.specs.Branches.{PartsAll}
use Rattle.path_steps.proofs.parting.part.Given as goal

abbrev pub invariant-loop-state : goal.invariant-loop-state
invariant-loop-state l = PartsAll l.initial.bank l.bank (take l.state-index l.states) l.at l.parted
