use Rattle.std.proofs.Common.{◌≡◌, ◌++◌, drop}
use Rattle.c_program_notes.specs.Placed.{linked_list}
use Rattle.c_program_notes.proofs.places.add_linked.Given as goal

abbrev pub invariant-loop-linked_name : goal.invariant-loop-linked_name
invariant-loop-linked_name l =
    l.offsets ++ linked_list (drop l.linked_name-index l.linked) ≡ l.fn.offsets ++ linked_list l.linked
