use Rattle.std.proofs.Common.{◌≡◌, ◌++◌, drop, map}
use Rattle.c_means.specs.Runs.{place_in}
use Rattle.core_programs.specs.Programs.{text_object}
use Rattle.c_program_notes.proofs.lasting.add_texts.Given as goal

abbrev pub invariant-loop-text : goal.invariant-loop-text
invariant-loop-text l =
    l.objects ++ map (text_object (place_in l.table)) (drop l.text-index l.texts) ≡ l.fn.objects ++ map (text_object (place_in l.table)) l.texts
