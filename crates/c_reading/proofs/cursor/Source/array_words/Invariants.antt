use Rattle.std.proofs.Common.{◌≡◌, length, suc}
use Rattle.c_grammar.specs.Reading.{run_at, an_array_word}
use Rattle.c_reading.specs.Cursor.{here, after}
use Rattle.c_reading.proofs.cursor.Source.array_words.Given as goal

abbrev pub invariant-run : goal.invariant-run
invariant-run l = after l.all (run_at an_array_word l.left (here l.self l.c)) ≡ run_at an_array_word
    (suc (length (here l.self l.fn.c).0)) (here l.self l.fn.c)

abbrev pub decreases-run : goal.decreases-run
decreases-run l = l.left
