use Rattle.std.proofs.Common.{◌≡◌, ◌≤◌, length, suc}
use Rattle.c_grammar.specs.Reading.{rules, members_at}
use Rattle.c_reading.specs.Cursor.{here, after}
use Rattle.c_exprs.proofs.below.Below.members.Given as goal

abbrev pub invariant-members : goal.invariant-members
invariant-members g l = record {
  reads : after l.all.trees (members_at (rules l.self.height) l.left (here l.self.source l.c)) ≡ members_at
      (rules l.self.height) (suc (length (here l.self.source l.fn.c).0)) (here l.self.source l.fn.c);
  low : l.all.height ≤ l.self.height;
}

abbrev pub decreases-members : goal.decreases-members
decreases-members g l = l.left
