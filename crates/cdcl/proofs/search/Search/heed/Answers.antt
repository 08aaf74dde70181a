use Rattle.std.proofs.Common.{length, refl, Some, List, subst}
use Rattle.cnf_core.specs.Literal.{Literal}
use Rattle.cdcl.specs.Known.{Member}
use Rattle.cdcl.specs.declared.assigned.Entry.{Entry}
use Rattle.cdcl.proofs.Searching.{implied-next, taken-known, literal-fits, one-name, ready-from}
use Rattle.cdcl.proofs.search.Search.heed.Goals as goal

pub take-requires-clause-room : goal.take-requires-clause-room
take-requires-clause-room c = literal-fits c.args.self.now c.args.id c.clause.result.now c.in-Implied.literal c.requires.ready c.requires.named c.clause.ensures c.in-Implied.ensures.has

pub returns-in_ok-take-in-Implied-clause-ready : goal.returns-in_ok-take-in-Implied-clause-ready
returns-in_ok-take-in-Implied-clause-ready c =
    let e : Entry = record { literal = c.in-Implied.literal; reason = Some c.args.id; level = c.args.self.now.trail.level } in
    ready-from c.take.new.self (length c.args.self.now.clauses.assumed) c.args.self.now.clauses c.in_ok-take-in-Implied.ensures.clauses refl
    (c.in_ok-take-in-Implied.ensures.search (length c.args.self.now.clauses.assumed) c.requires.ready
    (implied-next c.args.self.now c.args.id c.clause.result.now e c.requires.ready c.requires.named c.clause.ensures c.in-Implied.ensures refl refl))

pub returns-in_ok-take-in-Implied-clause-says : goal.returns-in_ok-take-in-Implied-clause-says
returns-in_ok-take-in-Implied-clause-says c = λ t is.
    let e : Entry = record { literal = c.in-Implied.literal; reason = Some c.args.id; level = c.args.self.now.trail.level } in
    let r = c.in_ok-take-in-Implied.ensures.search (length c.args.self.now.clauses.assumed) c.requires.ready
    (implied-next c.args.self.now c.args.id c.clause.result.now e c.requires.ready c.requires.named c.clause.ensures c.in-Implied.ensures refl refl) in
    let P : List Literal → Type 0 = λ k. Member c.in-Implied.literal k in (
      subst P (one-name c.args.self.now.clauses c.args.id c.clause.result.now t c.clause.ensures is) c.in-Implied.ensures.has,
      taken-known c.take.new.self e c.args.self.now.trail.entries.items r.trail.are_placed c.in_ok-take-in-Implied.ensures.entries,
    )
