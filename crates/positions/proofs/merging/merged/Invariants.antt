use Rattle.std.proofs.Common.{◌≡◌, ◌+◌, ◌-◌, true, length}
use Rattle.positions.specs.Sets.{ascends, Merges}
use Rattle.positions.proofs.merging.merged.Given as goal

abbrev pub invariant-merge : goal.invariant-merge
invariant-merge l = record {
  merges : Merges l.xs l.ys l.out.items l.i l.j;
  ordered : ascends l.out.items ≡ true;
}

abbrev pub decreases-merge : goal.decreases-merge
decreases-merge l = (length l.xs - l.i) + (length l.ys - l.j)
