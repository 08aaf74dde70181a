use Rattle.std.proofs.Common.{length, arith}
use Rattle.cdcl.proofs.Guarding.{guards-lower}
use Rattle.cdcl.specs.Guards.{Guards}
use Rattle.cdcl.proofs.search.Search.propagate.Goals as goal

pub returns-in-Some-clause-guards : goal.returns-in-Some-clause-guards
returns-in-Some-clause-guards c =
    let s = c.follow.new.self in
    let e = c.in_ok-id.ensures in
    let rest : Guards (length s.clauses.given) c.entries.next s = rw c.in-Some.is at e.rest in
    let h = c.entries.invariant.guards.ahead.followed in
    guards-lower (length s.clauses.given) c.entries.next s.followed s (omega (arith, h, e.goes.followed)) (omega arith) rest
