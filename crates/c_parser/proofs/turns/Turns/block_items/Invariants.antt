use Rattle.std.proofs.Common.{◌≡◌, length, suc}
use Rattle.c_grammar.specs.UnitReading.{stmt_at, block_items_at}
use Rattle.c_reading.specs.Cursor.{here, after}
use Rattle.c_parser.proofs.turns.Turns.block_items.Given as goal

abbrev pub invariant-items : goal.invariant-items
invariant-items g l = after l.all (block_items_at (stmt_at l.self.trees.height) l.left (here l.self.trees.source l.c))
    ≡ block_items_at (stmt_at l.self.trees.height) (suc (length (here l.self.trees.source l.fn.c).0))
    (here l.self.trees.source l.fn.c)

abbrev pub decreases-items : goal.decreases-items
decreases-items g l = l.left
