use Rattle.term_bank.proofs.BankLemmas.{grows_on}
use Rattle.term_bank.proofs.TermLemmas.{term_grown}
use Rattle.path_calls.proofs.FillLemmas.{counts_or_fails}
use Rattle.path_calls.proofs.fills.count_or_fail.Goals as goal

pub choose-requires-clause-condition : goal.choose-requires-clause-condition
choose-requires-clause-condition c = term_grown _ _ _ c.args.fails c.in_ok-minus_one.ensures.grows c.requires.fails

pub choose-requires-clause-no : goal.choose-requires-clause-no
choose-requires-clause-no c = term_grown _ _ _ c.args.filling.count c.in_ok-minus_one.ensures.grows c.requires.count

pub choose-requires-2-clause-condition : goal.choose-requires-2-clause-condition
choose-requires-2-clause-condition c =
    term_grown _ _ _ c.args.fails (grows_on c.in_ok-minus_one.ensures.grows c.in_ok-node.ensures.grows) c.requires.fails

pub choose-requires-2-clause-yes : goal.choose-requires-2-clause-yes
choose-requires-2-clause-yes c =
    term_grown _ _ _ c.args.memory (grows_on c.in_ok-minus_one.ensures.grows c.in_ok-node.ensures.grows) c.requires.memory

pub choose-requires-2-clause-no : goal.choose-requires-2-clause-no
choose-requires-2-clause-no c =
    term_grown _ _ _ c.args.filling.memory (grows_on c.in_ok-minus_one.ensures.grows c.in_ok-node.ensures.grows) c.requires.filled

pub returns : goal.returns
returns c =
    counts_or_fails c.args.bank.now c.word.new.self c.choose.new.self c.choose-2.new.self c.args.fails c.args.memory c.in_ok-minus_one.minus_one
    c.in_ok-node.node c.in_ok-memory.memory c.args.filling c.in_ok-minus_one.ensures c.in_ok-node.ensures c.in_ok-memory.ensures
