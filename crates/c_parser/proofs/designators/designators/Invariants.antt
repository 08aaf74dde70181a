use Rattle.std.proofs.Common.{◌≡◌, length, suc}
use Rattle.c_grammar.specs.Reading.{rules}
use Rattle.c_grammar.specs.UnitReading.{designators_at}
use Rattle.c_reading.specs.Cursor.{here, after}
use Rattle.c_parser.proofs.designators.designators.Given as goal

abbrev pub invariant-designators : goal.invariant-designators
invariant-designators l = after l.all (designators_at (rules l.trees.height) l.left (here l.trees.source l.c))
    ≡ designators_at (rules l.trees.height) (suc (length (here l.trees.source l.fn.c).0)) (here l.trees.source l.fn.c)

abbrev pub decreases-designators : goal.decreases-designators
decreases-designators l = l.left
