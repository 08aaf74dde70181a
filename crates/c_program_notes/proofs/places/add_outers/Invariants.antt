use Rattle.std.proofs.Common.{◌≡◌, ◌++◌, drop}
use Rattle.c_program_notes.specs.Placed.{outers_list}
use Rattle.c_program_notes.proofs.places.add_outers.Given as goal

abbrev pub invariant-loop-outer : goal.invariant-loop-outer
invariant-loop-outer l =
    l.offsets ++ outers_list (drop l.outer-index l.outers) ≡ l.fn.offsets ++ outers_list l.outers
