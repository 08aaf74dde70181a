use Rattle.term_bank.proofs.TermLemmas.{term_grown}
use Rattle.run_formula.proofs.ArgumentTerms.{counts}
use Rattle.run_formula.proofs.arguments.count_of.Goals as goal

pub binary-requires-clause-left : goal.binary-requires-clause-left
binary-requires-clause-left c = term_grown _ _ _ c.in_ok-word.word c.in_ok-most.ensures.grows c.in_ok-word.ensures.node

pub binary-requires-2-clause-left : goal.binary-requires-2-clause-left
binary-requires-2-clause-left c = term_grown _ _ _ c.in_ok-more.more c.in_ok-one.ensures.grows c.in_ok-more.ensures.node

pub returns : goal.returns
returns c =
    let range = c.args.bounds.now.arguments_in_range in
    counts _ _ _ _ _ _ _ c.in_ok-at.at c.in_ok-word.word c.in_ok-most.most c.in_ok-more.more c.in_ok-one.one c.in_ok-count.count c.args.place
    c.args.bounds.now.arguments range.0 range.1 c.in_ok-at.ensures c.in_ok-word.ensures c.in_ok-most.ensures c.in_ok-more.ensures
    c.in_ok-one.ensures c.in_ok-count.ensures
