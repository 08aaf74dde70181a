use Rattle.std.proofs.Common.{◌≡◌, ◌≤◌, ◌+◌, length, suc}
use Rattle.c_grammar.specs.Reading.{rules, suffixes_at}
use Rattle.c_reading.specs.Cursor.{here}
use Rattle.c_exprs.proofs.below.Below.suffixes.Given as goal

abbrev pub invariant-suffixes : goal.invariant-suffixes
invariant-suffixes g l = record {
  reads : suffixes_at (rules l.self.height) (suc l.self.height) l.place l.left l.all.tree
      (here l.self.source l.c) ≡ suffixes_at (rules l.self.height) (suc l.self.height) l.place
      (suc (length (here l.self.source l.fn.c).0)) l.fn.before.tree (here l.self.source l.fn.c);
  low : l.all.height ≤ l.self.height + 1;
}

abbrev pub decreases-suffixes : goal.decreases-suffixes
decreases-suffixes g l = l.left
