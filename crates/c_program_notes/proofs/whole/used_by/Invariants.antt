use Rattle.std.proofs.Common.{◌≡◌, ◌++◌, drop}
use Rattle.c_program_notes.specs.Wholes.{used_by}
use Rattle.c_program_notes.proofs.whole.used_by.Given as goal

abbrev pub invariant-loop-function : goal.invariant-loop-function
invariant-loop-function l =
    l.words ++ used_by (drop l.function-index l.functions) ≡ used_by l.functions
