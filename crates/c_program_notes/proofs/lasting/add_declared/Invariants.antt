use Rattle.std.proofs.Common.{◌≡◌, ◌++◌, drop}
use Rattle.c_means.specs.Runs.{place_in}
use Rattle.c_program_notes.specs.Placed.{declared_objects}
use Rattle.c_program_notes.proofs.lasting.add_declared.Given as goal

abbrev pub invariant-loop-note : goal.invariant-loop-note
invariant-loop-note l =
    l.objects ++ declared_objects (place_in l.table) l.scope (drop l.note-index l.lasting) ≡ l.fn.objects ++ declared_objects (place_in l.table) l.scope l.lasting
