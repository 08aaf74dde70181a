use Rattle.std.proofs.Common.{drop}
use Rattle.core_functions.proofs.Objects.{Leads}
use Rattle.core_functions.proofs.heads.parameters_of.Given as goal

abbrev pub invariant-loop-entry : goal.invariant-loop-entry
invariant-loop-entry l = Leads l.scope l.entries (drop l.entry-index l.entries) l.all
