use Rattle.std.proofs.Common.{◌≡◌, ◌++◌, drop}
use Rattle.c_means.specs.Programs.{ordinaries}
use Rattle.c_program_notes.proofs.whole.push_names.Given as goal

abbrev pub invariant-loop-name : goal.invariant-loop-name
invariant-loop-name l =
    l.all ++ ordinaries (drop l.name-index l.names) ≡ l.fn.all ++ ordinaries l.names
