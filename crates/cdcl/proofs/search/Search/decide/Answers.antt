use Rattle.std.proofs.Common.{length, refl, inl}
use Rattle.cdcl.proofs.Searching.{ready-from}
use Rattle.cdcl.proofs.Guarding.{guards-decided}
use Rattle.cdcl.proofs.search.Search.decide.Goals as goal

pub returns-clause-ready : goal.returns-clause-ready
returns-clause-ready c =
    let a = c.args.self.now in
    let e = c.in_ok-take.ensures in
    ready-from c.take.new.self (length a.clauses.assumed) a.clauses e.clauses refl
    (e.search (length a.clauses.assumed) c.requires.ready (inl (record { reason = refl; level = c.in_ok-level.ensures; above = c.requires.above })))

pub returns-clause-guards : goal.returns-clause-guards
returns-clause-guards c =
    let a = c.args.self.now in
    let e = c.in_ok-take.ensures in
    guards-decided a c.take.new.self _ c.requires.ready c.requires.whole c.requires.guards e.entries e.level e.clauses e.watches e.followed e.room
