use Rattle.std.proofs.Common.{◌≡◌, ◌≤◌, length, suc}
use Rattle.c_grammar.specs.Reading.{rules, more_arguments_at}
use Rattle.c_reading.specs.Cursor.{here, after}
use Rattle.c_exprs.proofs.below.Below.more_arguments.Given as goal

abbrev pub invariant-arguments : goal.invariant-arguments
invariant-arguments g l = record {
  reads : after l.all.trees (more_arguments_at (rules l.self.height) l.left (here l.self.source l.c)) ≡ after
      l.fn.first.trees (more_arguments_at (rules l.self.height) (suc (length (here l.self.source l.fn.c).0))
      (here l.self.source l.fn.c));
  low : l.all.height ≤ l.self.height;
}

abbrev pub decreases-arguments : goal.decreases-arguments
decreases-arguments g l = l.left
