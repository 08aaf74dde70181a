use Rattle.std.proofs.Common.{◌≡◌, drop}
use Rattle.c_means.specs.Checks.{are_of_kinds}
use Rattle.c_checks.proofs.calls.are_of_kinds.Given as goal

abbrev pub invariant-loop-kind : goal.invariant-loop-kind
invariant-loop-kind l = are_of_kinds (drop l.kind-index l.kinds) l.rest ≡ are_of_kinds l.kinds l.types
