use Rattle.std.proofs.Common.{◌≡◌, ◌++◌, drop}
use Rattle.c_language.specs.Declarations.{parameters_faults}
use Rattle.c_declarations.proofs.functions.parameters_faults.Given as goal

abbrev pub invariant-loop-entry : goal.invariant-loop-entry
invariant-loop-entry l =
    l.faults ++ parameters_faults l.tables (drop l.entry-index l.entries) ≡ parameters_faults l.tables l.entries
