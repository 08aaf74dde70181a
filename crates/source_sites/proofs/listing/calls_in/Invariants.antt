use Rattle.std.proofs.Common.{◌≡◌, ◌++◌, drop}
use Rattle.source_sites.specs.Sites.{noted_in}
use Rattle.source_sites.proofs.listing.calls_in.Given as goal

abbrev pub invariant-loop-function : goal.invariant-loop-function
invariant-loop-function l = l.found ++ noted_in (drop l.function-index l.functions) ≡ noted_in l.functions
