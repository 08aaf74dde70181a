use Rattle.std.proofs.Common.{take}
use Rattle.path_states.specs.Merges.{ChosenAll}
use Rattle.path_states.proofs.joining.chosen_all.Given as goal

abbrev pub invariant-loop-i : goal.invariant-loop-i
invariant-loop-i l = ChosenAll l.initial.bank l.bank l.condition (take l.i l.first) (take l.i l.second) l.all
