use Rattle.core_marks.proofs.Loops.{LeadsIn}
use Rattle.core_marks.proofs.programs.put_library_functions.Given as goal

abbrev pub invariant-functions : goal.invariant-functions
invariant-functions l = LeadsIn l.calls l.functions l.number l.initial.out l.out
