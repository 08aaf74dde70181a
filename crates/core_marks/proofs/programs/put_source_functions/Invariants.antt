use Rattle.std.proofs.Common.{◌≡◌, ◌++◌, drop}
use Rattle.core_marks.specs.Programs.{marks_in_front}
use Rattle.core_marks.proofs.programs.put_source_functions.Given as goal

abbrev pub invariant-loop-function : goal.invariant-loop-function
invariant-loop-function l =
    l.out ++ marks_in_front (drop l.function-index l.functions) ≡ l.initial.out ++ marks_in_front l.functions
