use Rattle.std.proofs.Common.{take}
use Rattle.path_states.specs.Merges.{AlikeNumbers}
use Rattle.path_states.proofs.joining.are_alike_numbers.Given as goal

abbrev pub invariant-loop-i : goal.invariant-loop-i
invariant-loop-i l = AlikeNumbers (take l.i l.first) (take l.i l.second)
