use Rattle.std.proofs.Common.{◌≡◌, ◌++◌, drop}
use Rattle.c_program_notes.specs.Placed.{literal_list}
use Rattle.c_program_notes.proofs.places.add_literals.Given as goal

abbrev pub invariant-loop-literal : goal.invariant-loop-literal
invariant-loop-literal l =
    l.offsets ++ literal_list (drop l.literal-index l.literals) ≡ l.fn.offsets ++ literal_list l.literals
