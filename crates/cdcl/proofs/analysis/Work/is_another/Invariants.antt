use Rattle.std.proofs.Common.{◌≤◌}
use Rattle.cdcl.proofs.Jumping.{NoneFrom}
use Rattle.cdcl.proofs.analysis.Work.is_another.Given as goal

abbrev pub invariant-entries : goal.invariant-entries
invariant-entries l = record {
  within : l.next ≤ l.end;
  none : NoneFrom l.trail.entries.items l.trail.level l.next l.end l.self.seen.items;
}

abbrev pub decreases-entries : goal.decreases-entries
decreases-entries l = l.next
