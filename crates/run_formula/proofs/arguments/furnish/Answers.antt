use Rattle.std.proofs.Common.{arith}
use Rattle.term_bank.proofs.TermLemmas.{term_grown}
use Rattle.run_formula.proofs.ArgumentTerms.{furnishes}
use Rattle.run_formula.proofs.arguments.furnish.Goals as goal

pub point_all-requires-clause-memory : goal.point_all-requires-clause-memory
point_all-requires-clause-memory c = term_grown _ _ _ c.in_ok-array.array c.in_ok-count.ensures.grows c.in_ok-array.ensures.term

pub point_all-requires-clause-count : goal.point_all-requires-clause-count
point_all-requires-clause-count c = c.in_ok-count.ensures.term

pub returns : goal.returns
returns c =
    let bounds = c.args.bounds.now in
    furnishes _ _ _ _ c.args.memory c.in_ok-array.array c.in_ok-count.count c.in_ok-pointed.pointed bounds.arguments bounds.outside c.args.place _
    bounds.arguments_in_range.0 bounds.arguments_in_range.1 bounds.outside_in_range (omega arith) c.in_ok-array.ensures c.in_ok-count.ensures
    c.in_ok-pointed.ensures
