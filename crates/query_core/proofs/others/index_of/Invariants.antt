use Rattle.std.proofs.Common.{◌≡◌, None, take}
use Rattle.query_core.specs.Claims.{other_at}
use Rattle.query_core.proofs.others.index_of.Given as goal

abbrev pub invariant-others : goal.invariant-others
invariant-others l = other_at (take l.index l.others) l.watch l.value ≡ None
