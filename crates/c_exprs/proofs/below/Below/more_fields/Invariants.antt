use Rattle.std.proofs.Common.{◌≡◌, ◌≤◌, length, suc}
use Rattle.c_grammar.specs.Reading.{rules, more_fields_at}
use Rattle.c_reading.specs.Cursor.{here, after}
use Rattle.c_exprs.proofs.below.Below.more_fields.Given as goal

abbrev pub invariant-fields : goal.invariant-fields
invariant-fields g l = record {
  reads : after l.all.trees (more_fields_at (rules l.self.height) l.left (here l.self.source l.c)) ≡ after
      l.fn.first.trees (more_fields_at (rules l.self.height) (suc (length (here l.self.source l.fn.c).0))
      (here l.self.source l.fn.c));
  low : l.all.height ≤ l.self.height;
}

abbrev pub decreases-fields : goal.decreases-fields
decreases-fields g l = l.left
