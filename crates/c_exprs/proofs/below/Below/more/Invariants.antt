use Rattle.std.proofs.Common.{◌≡◌, ◌≤◌, ◌+◌, length, suc}
use Rattle.c_grammar.specs.Reading.{rules, more_at}
use Rattle.c_reading.specs.Cursor.{here}
use Rattle.c_exprs.proofs.below.Below.more.Given as goal

abbrev pub invariant-operators : goal.invariant-operators
invariant-operators g l = record {
  reads : more_at (rules l.self.height) (suc l.self.height) l.rank l.turns l.all.tree (here l.self.source l.c) ≡
      more_at (rules l.self.height) (suc l.self.height) l.rank (suc (length (here l.self.source l.fn.c).0))
      l.fn.left.tree (here l.self.source l.fn.c);
  low : l.all.height ≤ l.self.height + 1;
}

abbrev pub decreases-operators : goal.decreases-operators
decreases-operators g l = l.turns
