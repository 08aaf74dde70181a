use Rattle.std.proofs.Common.{◌≡◌, ◌++◌, drop}
use Rattle.c_program_notes.proofs.watched.push_all.Given as goal

abbrev pub invariant-loop-entry : goal.invariant-loop-entry
invariant-loop-entry l =
    l.all ++ drop l.entry-index l.entries ≡ l.fn.all ++ l.entries
