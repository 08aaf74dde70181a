use Rattle.std.proofs.Common.{◌≡◌, ◌≤◌, length, suc, false}
use Rattle.c_grammar.specs.Reading.{rules, more_parameters_at}
use Rattle.c_reading.specs.Cursor.{here, behind}
use Rattle.c_exprs.proofs.below.Below.more_parameters.Given as goal

abbrev pub invariant-parameters : goal.invariant-parameters
invariant-parameters g l = record {
  reads : behind l.all.trees (more_parameters_at (rules l.self.height) l.left (here l.self.source l.c)) ≡ behind
      l.fn.first.trees (more_parameters_at (rules l.self.height) (suc (length (here l.self.source l.fn.c).0))
      (here l.self.source l.fn.c));
  low : l.all.height ≤ l.self.height;
  fixed : l.all.variadic ≡ false;
}

abbrev pub decreases-parameters : goal.decreases-parameters
decreases-parameters g l = l.left
