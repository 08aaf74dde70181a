use Rattle.term_bank.proofs.BankLemmas.{grows_on}
use Rattle.term_bank.proofs.TermLemmas.{term_grown}
use Rattle.path_calls.proofs.HeapLemmas.{remade_plain, remade_zeroed}
use Rattle.path_calls.proofs.heap.new_object.Goals as goal

pub made-requires-clause-memory : goal.made-requires-clause-memory
made-requires-clause-memory c = term_grown _ _ _ c.args.memory c.in_ok-number.ensures.grows c.requires.memory

pub made-requires-clause-size : goal.made-requires-clause-size
made-requires-clause-size c = term_grown _ _ _ c.args.size c.in_ok-number.ensures.grows c.requires.size

pub zero_range-requires-clause-memory : goal.zero_range-requires-clause-memory
zero_range-requires-clause-memory c = term_grown _ _ _ c.in_ok-node.node c.in_ok-first.ensures.grows c.in_ok-node.ensures.node

pub zero_range-requires-clause-length : goal.zero_range-requires-clause-length
zero_range-requires-clause-length c =
    term_grown _ _ _ c.args.size
    (grows_on c.in_ok-number.ensures.grows (grows_on c.in_ok-node.ensures.grows c.in_ok-first.ensures.grows)) c.requires.size

pub returns-then-not-zeroes : goal.returns-then-not-zeroes
returns-then-not-zeroes c =
    rw c.if-not-zeroes.true
    (remade_plain c.args.place c.args.bank.now c.place_number.new.bank c.made.new.bank c.args.memory c.in_ok-number.number c.in_ok-node.node
    c.args.size c.in_ok-number.ensures c.in_ok-node.ensures)

pub returns : goal.returns
returns c =
    rw c.if-not-zeroes.false
    (remade_zeroed c.args.place c.args.bank.now c.place_number.new.bank c.made.new.bank c.first_address.new.bank c.zero_range.new.bank c.args.memory
    c.in_ok-number.number c.in_ok-node.node c.in_ok-first.first c.in_ok-zeroed.zeroed c.args.size c.in_ok-number.ensures c.in_ok-node.ensures
    c.in_ok-first.ensures c.in_ok-zeroed.ensures)
