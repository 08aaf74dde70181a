use Rattle.term_bank.proofs.BankLemmas.{grows_on}
use Rattle.term_bank.proofs.TermLemmas.{term_grown}
use Rattle.path_calls.proofs.FillLemmas.{lays}
use Rattle.path_calls.proofs.fills.lay_initial.Goals as goal

pub copy_range-requires-clause-memory : goal.copy_range-requires-clause-memory
copy_range-requires-clause-memory c =
    term_grown _ _ _ c.args.memory (grows_on c.in_ok-source.ensures.grows c.in_ok-from.ensures.grows) c.requires.memory

pub copy_range-requires-clause-to : goal.copy_range-requires-clause-to
copy_range-requires-clause-to c =
    term_grown _ _ _ c.args.to (grows_on c.in_ok-source.ensures.grows c.in_ok-from.ensures.grows) c.requires.to

pub copy_range-requires-clause-source : goal.copy_range-requires-clause-source
copy_range-requires-clause-source c = term_grown _ _ _ c.in_ok-source.source c.in_ok-from.ensures.grows c.in_ok-source.ensures.node

pub copy_range-requires-clause-length : goal.copy_range-requires-clause-length
copy_range-requires-clause-length c =
    term_grown _ _ _ c.args.count (grows_on c.in_ok-source.ensures.grows c.in_ok-from.ensures.grows) c.requires.count

pub returns : goal.returns
returns c =
    lays c.args.place c.args.bank.now c.initial.new.bank c.first_address.new.bank c.copy_range.new.bank c.args.memory c.args.to c.args.count
    c.in_ok-source.source c.in_ok-from.from c.in_ok-node.node c.in_ok-source.ensures c.in_ok-from.ensures c.in_ok-node.ensures
