use Rattle.std.proofs.Common.{◌≡◌, length, suc}
use Rattle.c_grammar.specs.Reading.{rules}
use Rattle.c_grammar.specs.UnitReading.{initializer_at, more_inits_at}
use Rattle.c_reading.specs.Cursor.{here, after}
use Rattle.c_parser.proofs.declarations.more_inits.Given as goal

abbrev pub invariant-inits : goal.invariant-inits
invariant-inits l =
    after l.all (more_inits_at (rules l.trees.height) (initializer_at l.trees.height) l.is_type l.left
    (here l.trees.source l.c)) ≡ after l.fn.first
    (more_inits_at (rules l.trees.height) (initializer_at l.trees.height) l.is_type
    (suc (length (here l.trees.source l.fn.c).0)) (here l.trees.source l.fn.c))

abbrev pub decreases-inits : goal.decreases-inits
decreases-inits l = l.left
