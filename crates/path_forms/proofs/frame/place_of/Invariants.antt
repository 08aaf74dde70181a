use Rattle.std.proofs.Common.{take}
use Rattle.path_forms.specs.Around.{FoundIn}
use Rattle.path_forms.proofs.frame.place_of.Given as goal

abbrev pub invariant-loop-placed : goal.invariant-loop-placed
invariant-loop-placed l = FoundIn (take l.placed-index l.frame) l.at l.found
