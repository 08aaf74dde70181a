use Rattle.std.proofs.Common.{append-nil, sym, arith}
use Rattle.query_core.proofs.BitLemmas.{more-put, all-put}
use Rattle.query_core.proofs.clauses.add_all.Goals as goal

pub clauses-init : goal.clauses-init
clauses-init c = record { clauses = sym (append-nil c.args.solver.now.clauses); kept = λ none. none }

pub clauses-preserved : goal.clauses-preserved
clauses-preserved c =
    let i = c.clauses.invariant in
    let e = c.in_ok-add_clause.ensures in
    record {
      clauses = more-put c.args.solver.now.clauses c.clauses.solver.clauses c.add_clause.new.solver.clauses c.args.formula.now c.clauses.index
          c.clause.result.now c.clause.ensures i.clauses e.clauses;
      kept = λ none. e.kept (i.kept none);
    }

pub returns-clause-clauses : goal.returns-clause-clauses
returns-clause-clauses c =
    all-put c.args.solver.now.clauses c.clauses.solver.clauses c.args.formula.now c.clauses.index
    (omega (arith, c.clauses-test.false, c.len-index-end.ensures)) c.clauses.invariant.clauses
