use Rattle.bitvectors.proofs.MoreLemmas.{rest-more}
use Rattle.bitvectors.proofs.more.clauses_from.Goals as goal

pub clauses-preserved : goal.clauses-preserved
clauses-preserved c =
    rest-more c.args.formula.now c.clauses.rest c.push.new.self c.args.start c.clauses.index c.clause.result.now c.clause.ensures
    c.clauses.invariant c.in_ok-push.ensures.ok
