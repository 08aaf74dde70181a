use Rattle.std.proofs.Common.{◌≡◌, ◌≤◌, length, suc, false}
use Rattle.c_grammar.specs.Reading.{rules, more_enumerators_at}
use Rattle.c_reading.specs.Cursor.{here, behind}
use Rattle.c_exprs.proofs.below.Below.more_enumerators.Given as goal

abbrev pub invariant-enumerators : goal.invariant-enumerators
invariant-enumerators g l = record {
  reads : behind l.all.trees (more_enumerators_at (rules l.self.height) l.left (here l.self.source l.c)) ≡
      behind l.fn.first.trees (more_enumerators_at (rules l.self.height)
      (suc (length (here l.self.source l.fn.c).0)) (here l.self.source l.fn.c));
  low : l.all.height ≤ l.self.height;
  untrailed : l.all.trailing ≡ false;
}

abbrev pub decreases-enumerators : goal.decreases-enumerators
decreases-enumerators g l = l.left
