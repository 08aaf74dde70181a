use Rattle.std.proofs.Common.{◌≡◌, ◌++◌, drop}
use Rattle.c_program_notes.specs.Placed.{text_list}
use Rattle.c_program_notes.proofs.places.add_texts.Given as goal

abbrev pub invariant-loop-text : goal.invariant-loop-text
invariant-loop-text l =
    l.offsets ++ text_list (drop l.text-index l.texts) ≡ l.fn.offsets ++ text_list l.texts
