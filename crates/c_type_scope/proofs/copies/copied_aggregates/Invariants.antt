use Rattle.std.proofs.Common.{◌≡◌, take}
use Rattle.c_type_scope.proofs.copies.copied_aggregates.Given as goal

abbrev pub invariant-loop-aggregate : goal.invariant-loop-aggregate
invariant-loop-aggregate l = l.copy ≡ take l.aggregate-index l.aggregates
