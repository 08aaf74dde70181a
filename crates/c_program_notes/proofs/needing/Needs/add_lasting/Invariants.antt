use Rattle.std.proofs.Common.{◌≡◌, drop}
use Rattle.c_program_notes.specs.Needed.{with_lasting}
use Rattle.c_program_notes.proofs.needing.Needs.add_lasting.Given as goal

abbrev pub invariant-loop-note : goal.invariant-loop-note
invariant-loop-note l =
    with_lasting (drop l.note-index l.lasting) l.self ≡ with_lasting l.lasting l.fn.self
