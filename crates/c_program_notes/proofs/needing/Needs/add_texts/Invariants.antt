use Rattle.std.proofs.Common.{◌≡◌, drop}
use Rattle.c_program_notes.specs.Needed.{with_texts}
use Rattle.c_program_notes.proofs.needing.Needs.add_texts.Given as goal

abbrev pub invariant-loop-literal : goal.invariant-loop-literal
invariant-loop-literal l =
    with_texts l.name (drop l.literal-index l.literals) l.self ≡ with_texts l.name l.literals l.fn.self
