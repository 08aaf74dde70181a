use Rattle.term_bank.proofs.BankLemmas.{grows_on}
use Rattle.term_bank.proofs.TermLemmas.{term_grown}
use Rattle.run_formula.proofs.Started.{zeroed}
use Rattle.run_formula.proofs.texts.zero_bytes.Goals as goal

pub zero_range-requires-clause-from : goal.zero_range-requires-clause-from
zero_range-requires-clause-from c = term_grown _ _ _ c.in_ok-from.from c.in_ok-length.ensures.grows c.in_ok-from.ensures.node

pub zero_range-requires-clause-memory : goal.zero_range-requires-clause-memory
zero_range-requires-clause-memory c =
    term_grown _ _ _ c.args.memory (grows_on c.in_ok-from.ensures.grows c.in_ok-length.ensures.grows) c.requires.memory

pub returns : goal.returns
returns c =
    zeroed _ _ _ _ c.args.memory c.in_ok-from.from c.in_ok-length.length c.in_ok-node.node c.args.address c.args.count c.requires.ends
    c.in_ok-from.ensures c.in_ok-length.ensures c.in_ok-node.ensures
