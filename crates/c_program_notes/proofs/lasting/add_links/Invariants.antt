use Rattle.std.proofs.Common.{◌≡◌, ◌++◌, drop}
use Rattle.c_means.specs.Runs.{place_in}
use Rattle.core_programs.specs.Programs.{link_objects}
use Rattle.c_program_notes.proofs.lasting.add_links.Given as goal

abbrev pub invariant-loop-name : goal.invariant-loop-name
invariant-loop-name l =
    l.objects ++ link_objects (place_in l.table) l.scope (drop l.name-index l.links) ≡ l.fn.objects ++ link_objects (place_in l.table) l.scope l.links
