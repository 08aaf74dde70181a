use Rattle.std.proofs.Common.{◌≡◌, ◌++◌, drop}
use Rattle.c_program_notes.specs.Wholes.{functions_in}
use Rattle.assumptions.proofs.outside.functions_in.Given as goal

abbrev pub invariant-loop-outer : goal.invariant-loop-outer
invariant-loop-outer l = l.functions ++ functions_in (drop l.outer-index l.outers) ≡ functions_in l.outers
