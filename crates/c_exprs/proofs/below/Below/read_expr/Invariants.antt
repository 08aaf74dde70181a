use Rattle.std.proofs.Common.{◌≡◌, ◌≤◌, ◌+◌, ◌-◌, suc, Some}
use Rattle.c_grammar.specs.Reading.{rules, expr_by}
use Rattle.c_reading.specs.Cursor.{here}
use Rattle.c_exprs.proofs.below.Below.read_expr.Given as goal

abbrev pub invariant-ranks : goal.invariant-ranks
invariant-ranks g l = record {
  reads : expr_by (rules l.self.height) (suc l.self.height) l.reached (here l.self.source l.fn.c) ≡ Some
      (l.all.tree, here l.self.source l.c);
  low : l.all.height ≤ l.self.height + 1;
  least : 3 ≤ l.reached;
  most : l.reached ≤ l.rank;
}

abbrev pub decreases-ranks : goal.decreases-ranks
decreases-ranks g l = l.rank - l.reached
