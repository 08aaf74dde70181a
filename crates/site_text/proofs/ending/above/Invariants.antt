use Rattle.std.proofs.Common.{◌≡◌, ◌++◌, drop}
use Rattle.std.specs.Prelude.{nat_lt}
use Rattle.std.specs.List.{filter}
use Rattle.site_text.proofs.ending.above.Given as goal

abbrev pub invariant-loop-position : goal.invariant-loop-position
invariant-loop-position l =
    l.found ++ filter (nat_lt l.start) (drop l.position-index l.positions) ≡ filter (nat_lt l.start) l.positions
