use Rattle.std.proofs.Common.{◌≡◌, drop}
use Rattle.c_reach.specs.Reaching.{has_at}
use Rattle.c_reach.proofs.search.is_among.Given as goal

abbrev pub invariant-loop-function : goal.invariant-loop-function
invariant-loop-function l = has_at l.at (drop l.function-index l.functions) ≡ has_at l.at l.functions
