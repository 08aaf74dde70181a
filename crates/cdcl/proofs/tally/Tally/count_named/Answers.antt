use Rattle.std.proofs.Common.{refl}
use Rattle.cdcl.proofs.TallyLemmas.{counted-named}
use Rattle.cdcl.proofs.tally.Tally.count_named.Goals as goal

pub returns-clause-counted : goal.returns-clause-counted
returns-clause-counted c = λ seen old h.
    let there = c.if-not-has.ensures.there refl in
    counted-named seen old c.count_all.new.self c.args.clauses.now c.args.id c.clause.result.now there.0 c.clause.ensures there.1 (c.count_all.ensures.counted seen old h)
