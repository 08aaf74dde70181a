use Rattle.std.proofs.Common.{◌∙◌, ap}
use Rattle.cdcl.specs.declared.clauses.ClauseId.TheVariants.{Learnt}
use Rattle.cdcl.specs.Sources.{named}
use Rattle.cdcl.proofs.Asserting.{codes-last, asserted}
use Rattle.cdcl.proofs.search.Search.assert_last.Goals as goal

pub wait_last-requires-clause-codes : goal.wait_last-requires-clause-codes
wait_last-requires-clause-codes c = codes-last c.args.self.now c.args.clause.now c.requires.ready c.requires.guards

pub heed-requires-clause-named : goal.heed-requires-clause-named
heed-requires-clause-named c = (c.args.clause.now, ap (λ n. named 1 c.args.self.now.clauses (Learnt n)) c.len.ensures ∙ c.requires.guards.last)

pub returns-clause-guards : goal.returns-clause-guards
returns-clause-guards c =
    let s = c.args.self.now in
    let e = c.in_ok-heed.ensures in
    asserted s c.heed.new.self c.wait_last.new.self c.args.clause.now c.in_ok-heed.field-0 c.requires.ready e.ready c.requires.guards c.in_ok-wait_last.ensures e.goes e.watches
    (e.says c.args.clause.now (ap (λ n. named 1 s.clauses (Learnt n)) c.len.ensures ∙ c.requires.guards.last))
