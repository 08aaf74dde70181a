use Rattle.std.proofs.Common.{◌≡◌, ◌++◌, drop}
use Rattle.c_program_notes.specs.Wholes.{names_of}
use Rattle.c_program_notes.proofs.whole.names_of.Given as goal

abbrev pub invariant-loop-outer : goal.invariant-loop-outer
invariant-loop-outer l =
    l.all ++ names_of (drop l.outer-index l.outers) ≡ names_of l.outers
