use Rattle.std.proofs.Common.{take}
use Rattle.path_prints.specs.Says.{SaysEach}
use Rattle.path_prints.proofs.says.say_each.Given as goal

abbrev pub invariant-loop-state : goal.invariant-loop-state
invariant-loop-state l = SaysEach l.initial.bank l.bank l.log l.piece l.arguments (take l.state-index l.states) l.behind
