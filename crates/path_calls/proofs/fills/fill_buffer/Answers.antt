use Rattle.term_bank.proofs.BankLemmas.{grows_on}
use Rattle.term_bank.proofs.TermLemmas.{term_grown}
use Rattle.path_states.proofs.Growth.{numbers_grown}
use Rattle.path_calls.proofs.FillLemmas.{fills}
use Rattle.path_calls.proofs.fills.fill_buffer.Goals as goal

pub address_at-requires-2 : goal.address_at-requires-2
address_at-requires-2 c = numbers_grown c.in_ok-buffer.ensures.grows c.args.arguments.now c.requires.arguments

pub can_access-requires-clause-memory : goal.can_access-requires-clause-memory
can_access-requires-clause-memory c =
    term_grown _ _ _ c.args.memory
    (grows_on c.in_ok-buffer.ensures.grows (grows_on c.in_ok-length.ensures.grows c.in_ok-count.ensures.grows)) c.requires.memory

pub can_access-requires-clause-address : goal.can_access-requires-clause-address
can_access-requires-clause-address c =
    term_grown _ _ _ c.in_ok-buffer.buffer (grows_on c.in_ok-length.ensures.grows c.in_ok-count.ensures.grows) c.in_ok-buffer.ensures.term

pub can_write-requires-clause-memory : goal.can_write-requires-clause-memory
can_write-requires-clause-memory c =
    term_grown _ _ _ c.args.memory
    (grows_on c.in_ok-buffer.ensures.grows (grows_on c.in_ok-length.ensures.grows (grows_on c.in_ok-count.ensures.grows
    c.in_ok-accessible.ensures.grows))) c.requires.memory

pub can_write-requires-clause-address : goal.can_write-requires-clause-address
can_write-requires-clause-address c =
    term_grown _ _ _ c.in_ok-buffer.buffer
    (grows_on c.in_ok-length.ensures.grows (grows_on c.in_ok-count.ensures.grows c.in_ok-accessible.ensures.grows)) c.in_ok-buffer.ensures.term

pub can_write-requires-clause-length : goal.can_write-requires-clause-length
can_write-requires-clause-length c = term_grown _ _ _ c.in_ok-count.count c.in_ok-accessible.ensures.grows c.in_ok-count.ensures.term

pub lay_initial-requires-clause-memory : goal.lay_initial-requires-clause-memory
lay_initial-requires-clause-memory c =
    term_grown _ _ _ c.args.memory
    (grows_on c.in_ok-buffer.ensures.grows (grows_on c.in_ok-length.ensures.grows (grows_on c.in_ok-count.ensures.grows
    (grows_on c.in_ok-accessible.ensures.grows c.in_ok-writable.ensures.grows)))) c.requires.memory

pub lay_initial-requires-clause-to : goal.lay_initial-requires-clause-to
lay_initial-requires-clause-to c =
    term_grown _ _ _ c.in_ok-buffer.buffer
    (grows_on c.in_ok-length.ensures.grows (grows_on c.in_ok-count.ensures.grows
    (grows_on c.in_ok-accessible.ensures.grows c.in_ok-writable.ensures.grows))) c.in_ok-buffer.ensures.term

pub lay_initial-requires-clause-count : goal.lay_initial-requires-clause-count
lay_initial-requires-clause-count c =
    term_grown _ _ _ c.in_ok-count.count (grows_on c.in_ok-accessible.ensures.grows c.in_ok-writable.ensures.grows) c.in_ok-count.ensures.term

pub returns : goal.returns
returns c =
    fills c.args.bounds.now.heap c.args.fill c.args.place c.args.bank.now c.address_at.new.bank c.address_at-2.new.bank c.fill_count.new.bank
    c.can_access.new.bank c.can_write.new.bank c.lay_initial.new.bank c.args.arguments.now c.args.memory c.in_ok-buffer.buffer c.in_ok-length.length
    c.in_ok-count.count c.in_ok-accessible.accessible c.in_ok-writable.writable c.in_ok-filled.filled c.args.bounds.now.heap_in_range.1
    c.in_ok-buffer.ensures c.in_ok-length.ensures c.in_ok-count.ensures c.in_ok-accessible.ensures c.in_ok-writable.ensures c.in_ok-filled.ensures
