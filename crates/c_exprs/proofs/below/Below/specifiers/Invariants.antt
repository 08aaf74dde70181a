use Rattle.std.proofs.Common.{◌≡◌, ◌≤◌, length, suc, false}
use Rattle.c_grammar.specs.Reading.{rules, specifiers_at}
use Rattle.c_reading.specs.Cursor.{here, after}
use Rattle.c_exprs.proofs.below.Below.specifiers.Given as goal

abbrev pub invariant-specifiers : goal.invariant-specifiers
invariant-specifiers g l = record {
  reads : after l.all.trees (specifiers_at (rules l.self.height) l.left l.typed (here l.self.source l.c)) ≡
      specifiers_at (rules l.self.height) (suc (length (here l.self.source l.fn.c).0)) false
      (here l.self.source l.fn.c);
  low : l.all.height ≤ l.self.height;
}

abbrev pub decreases-specifiers : goal.decreases-specifiers
decreases-specifiers g l = l.left
