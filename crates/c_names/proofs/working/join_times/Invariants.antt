use Rattle.std.proofs.Common.{◌≡◌}
use Rattle.c_names.specs.Working.{joined_times}
use Rattle.c_names.proofs.working.join_times.Given as goal

abbrev pub invariant-joins : goal.invariant-joins
invariant-joins l = joined_times l.left l.done ≡ joined_times l.count l.fn.done

abbrev pub decreases-joins : goal.decreases-joins
decreases-joins l = l.left
