use Rattle.std.proofs.Common.{◌≡◌, drop}
use Rattle.c_program_notes.specs.Needed.{all_needs, no_needs}
use Rattle.c_program_notes.proofs.needing.needs_of.Given as goal

abbrev pub invariant-loop-outer : goal.invariant-loop-outer
invariant-loop-outer l =
    all_needs l.words l.found (drop l.outer-index l.outers) l.needs ≡ all_needs l.words l.found l.outers no_needs
