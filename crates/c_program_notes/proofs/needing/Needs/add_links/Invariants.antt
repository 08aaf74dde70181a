use Rattle.std.proofs.Common.{◌≡◌, drop}
use Rattle.c_program_notes.specs.Needed.{with_links}
use Rattle.c_program_notes.proofs.needing.Needs.add_links.Given as goal

abbrev pub invariant-loop-name : goal.invariant-loop-name
invariant-loop-name l =
    with_links (drop l.name-index l.links) l.self ≡ with_links l.links l.fn.self
