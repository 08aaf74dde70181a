use Rattle.std.proofs.Common.{◌≡◌, length, suc}
use Rattle.c_grammar.specs.Reading.{rules}
use Rattle.c_grammar.specs.UnitReading.{initializer_at, more_items_at}
use Rattle.c_reading.specs.Cursor.{here, behind}
use Rattle.c_parser.proofs.initializers.Inside.more_items.Given as goal

abbrev pub invariant-items : goal.invariant-items
invariant-items g l =
    behind l.all (more_items_at (rules l.self.trees.height) (initializer_at l.self.trees.height) l.left
    (here l.self.trees.source l.c)) ≡ behind l.fn.first
    (more_items_at (rules l.self.trees.height) (initializer_at l.self.trees.height)
    (suc (length (here l.self.trees.source l.fn.c).0)) (here l.self.trees.source l.fn.c))

abbrev pub decreases-items : goal.decreases-items
decreases-items g l = l.left
