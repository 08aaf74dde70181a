use Rattle.std.proofs.Common.{◌≡◌, ◌++◌, drop}
use Rattle.c_program_notes.specs.Placed.{name_list}
use Rattle.c_program_notes.proofs.places.add_links.Given as goal

abbrev pub invariant-loop-name : goal.invariant-loop-name
invariant-loop-name l =
    l.offsets ++ name_list l.scope (drop l.name-index l.links) ≡ l.fn.offsets ++ name_list l.scope l.links
