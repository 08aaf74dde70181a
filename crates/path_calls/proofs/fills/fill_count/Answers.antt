use Rattle.term_bank.proofs.BankLemmas.{grows_on}
use Rattle.term_bank.proofs.TermLemmas.{term_grown}
use Rattle.path_calls.proofs.FillLemmas.{counts}
use Rattle.path_calls.proofs.fills.fill_count.Goals as goal

pub least-requires-clause-left : goal.least-requires-clause-left
least-requires-clause-left c =
    term_grown _ _ _ c.args.length (grows_on c.in_ok-word.ensures.grows c.in_ok-bound.ensures.grows) c.requires

pub least-requires-2-clause-left : goal.least-requires-2-clause-left
least-requires-2-clause-left c =
    term_grown _ _ _ c.in_ok-word.word (grows_on c.in_ok-bound.ensures.grows c.in_ok-most.ensures.grows) c.in_ok-word.ensures.term

pub returns : goal.returns
returns c =
    counts c.args.bounds.now.heap c.args.place c.args.bank.now c.asked.new.bank c.word.new.self c.least.new.bank c.least-2.new.bank c.args.length
    c.in_ok-word.word c.in_ok-bound.bound c.in_ok-most.most c.in_ok-count.count c.in_ok-word.ensures c.in_ok-bound.ensures c.in_ok-most.ensures
    c.in_ok-count.ensures
