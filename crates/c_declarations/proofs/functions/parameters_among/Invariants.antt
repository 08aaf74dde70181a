use Rattle.std.proofs.Common.{◌≡◌, ◌++◌, drop}
use Rattle.c_language.specs.Declarations.{parameters_among}
use Rattle.c_declarations.proofs.functions.parameters_among.Given as goal

abbrev pub invariant-loop-entry : goal.invariant-loop-entry
invariant-loop-entry l = l.all ++ parameters_among (drop l.entry-index l.entries) ≡ parameters_among l.entries
