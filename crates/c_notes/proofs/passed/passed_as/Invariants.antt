use Rattle.std.proofs.Common.{◌≡◌, ◌++◌, drop}
use Rattle.c_notes.specs.Tellings.{passed_as}
use Rattle.c_notes.proofs.passed.passed_as.Given as goal

abbrev pub invariant-loop-ctype : goal.invariant-loop-ctype
invariant-loop-ctype l = l.passed ++ passed_as (drop l.ctype-index l.types) l.rest ≡ passed_as l.types l.parameters
