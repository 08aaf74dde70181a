use Rattle.std.proofs.Common.{◌≡◌, ◌++◌, drop}
use Rattle.source_sites.specs.Sites.{noted_sites}
use Rattle.source_sites.proofs.listing.put_calls.Given as goal

abbrev pub invariant-loop-call : goal.invariant-loop-call
invariant-loop-call l = l.out ++ noted_sites (drop l.call-index l.calls) ≡ l.fn.out ++ noted_sites l.calls
