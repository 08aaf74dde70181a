use Rattle.std.proofs.Common.{length, arith}
use Rattle.cdcl.proofs.Resting.{rested}
use Rattle.cdcl.proofs.search.Search.rest.Goals as goal

pub returns-clause-resting : goal.returns-clause-resting
returns-clause-resting c =
    let s = c.go_back.new.self in
    let e = c.go_back.ensures in
    rested s (length s.clauses.assumed, e.ready (λ one. absurd (omega arith))) e.guards e.level
