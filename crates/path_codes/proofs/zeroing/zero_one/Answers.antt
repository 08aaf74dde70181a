use Rattle.term_bank.proofs.BankLemmas.{grows_on}
use Rattle.term_bank.proofs.TermLemmas.{term_grown}
use Rattle.path_codes.proofs.Zeroed.{zeroes_one}
use Rattle.path_codes.proofs.zeroing.zero_one.Goals as goal

pub zero_range-requires-clause-memory : goal.zero_range-requires-clause-memory
zero_range-requires-clause-memory c =
    term_grown _ _ _ _ (grows_on c.in_ok-from.ensures.grows c.in_ok-length.ensures.grows) c.in_ok-operand.ensures.state.memory

pub zero_range-requires-clause-from : goal.zero_range-requires-clause-from
zero_range-requires-clause-from c = term_grown _ _ _ c.in_ok-from.from c.in_ok-length.ensures.grows c.in_ok-from.ensures.term

pub returns : goal.returns
returns c =
    rw c.new.ensures
    (zeroes_one c.args.bank.now _ _ _ _ c.args.state c.pop.new.state c.in_ok-operand.operand c.in_ok-from.from c.in_ok-length.length
    c.in_ok-memory.memory c.args.size c.in_ok-operand.ensures c.in_ok-from.ensures c.in_ok-length.ensures c.in_ok-memory.ensures)
