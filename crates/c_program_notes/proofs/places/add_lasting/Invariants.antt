use Rattle.std.proofs.Common.{◌≡◌, ◌++◌, drop}
use Rattle.c_program_notes.specs.Placed.{lasting_list}
use Rattle.c_program_notes.proofs.places.add_lasting.Given as goal

abbrev pub invariant-loop-note : goal.invariant-loop-note
invariant-loop-note l =
    l.offsets ++ lasting_list (drop l.note-index l.notes) ≡ l.fn.offsets ++ lasting_list l.notes
