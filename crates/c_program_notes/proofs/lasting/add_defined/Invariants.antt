use Rattle.std.proofs.Common.{◌≡◌, ◌++◌, drop}
use Rattle.c_means.specs.Runs.{place_in}
use Rattle.c_program_notes.specs.Placed.{defined_objects}
use Rattle.c_program_notes.proofs.lasting.add_defined.Given as goal

abbrev pub invariant-loop-note : goal.invariant-loop-note
invariant-loop-note l =
    l.objects ++ defined_objects (place_in l.table) l.scope (drop l.note-index l.lasting) ≡ l.fn.objects ++ defined_objects (place_in l.table) l.scope l.lasting
