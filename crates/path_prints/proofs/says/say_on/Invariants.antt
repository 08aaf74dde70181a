use Rattle.std.proofs.Common.{take}
use Rattle.path_prints.specs.Says.{PutsSplits}
use Rattle.path_prints.proofs.says.say_on.Given as goal

abbrev pub invariant-loop-split : goal.invariant-loop-split
invariant-loop-split l = PutsSplits l.initial.bank l.bank l.state l.arguments (take l.split-index l.split-items) l.states
