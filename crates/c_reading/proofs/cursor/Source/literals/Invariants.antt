use Rattle.std.proofs.Common.{◌≡◌, length, suc, [], ◌∷◌}
use Rattle.c_grammar.specs.Reading.{run_at, a_literal}
use Rattle.c_reading.specs.Cursor.{here, after}
use Rattle.c_reading.proofs.cursor.Source.literals.Given as goal

abbrev pub invariant-run : goal.invariant-run
invariant-run l = after l.all (run_at a_literal l.left (here l.self l.c)) ≡ after (l.fn.first ∷ [])
    (run_at a_literal (suc (length (here l.self l.fn.c).0)) (here l.self l.fn.c))

abbrev pub decreases-run : goal.decreases-run
decreases-run l = l.left
