use Rattle.std.proofs.Common.{append-nil, sym, arith}
use Rattle.query_core.proofs.BitLemmas.{more-put, all-put}
use Rattle.query_core.proofs.clauses.push_all.Goals as goal

pub clauses-init : goal.clauses-init
clauses-init c = sym (append-nil c.args.formula.now)

pub clauses-preserved : goal.clauses-preserved
clauses-preserved c =
    more-put c.args.formula.now c.clauses.formula c.push.new.self c.args.more.now c.clauses.index c.clause.result.now
    c.clause.ensures c.clauses.invariant c.in_ok-push.ensures.ok

pub returns : goal.returns
returns c =
    all-put c.args.formula.now c.clauses.formula c.args.more.now c.clauses.index
    (omega (arith, c.clauses-test.false, c.len-index-end.ensures)) c.clauses.invariant
