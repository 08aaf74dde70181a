use Rattle.term_bank.proofs.BankLemmas.{grows_on}
use Rattle.term_bank.proofs.TermLemmas.{term_grown}
use Rattle.path_calls.proofs.FillLemmas.{replies_counted}
use Rattle.path_calls.proofs.fills.answer_count.Goals as goal

pub neither-requires-clause-second : goal.neither-requires-clause-second
neither-requires-clause-second c =
    term_grown _ _ _ c.in_ok-filling.filling.accessible c.in_ok-fails.ensures.grows c.in_ok-filling.ensures.accessible_term

pub neither-requires-2-clause-first : goal.neither-requires-2-clause-first
neither-requires-2-clause-first c = term_grown _ _ _ c.in_ok-fails.fails c.in_ok-no_access.ensures.grows c.in_ok-fails.ensures.term

pub neither-requires-2-clause-second : goal.neither-requires-2-clause-second
neither-requires-2-clause-second c =
    term_grown _ _ _ c.in_ok-filling.filling.writable (grows_on c.in_ok-fails.ensures.grows c.in_ok-no_access.ensures.grows)
    c.in_ok-filling.ensures.writable_term

pub count_or_fail-requires-clause-fails : goal.count_or_fail-requires-clause-fails
count_or_fail-requires-clause-fails c =
    term_grown _ _ _ c.in_ok-fails.fails (grows_on c.in_ok-no_access.ensures.grows c.in_ok-no_write.ensures.grows) c.in_ok-fails.ensures.term

pub count_or_fail-requires-clause-count : goal.count_or_fail-requires-clause-count
count_or_fail-requires-clause-count c =
    term_grown _ _ _ c.in_ok-filling.filling.count
    (grows_on c.in_ok-fails.ensures.grows (grows_on c.in_ok-no_access.ensures.grows c.in_ok-no_write.ensures.grows)) c.in_ok-filling.ensures.count_term

pub count_or_fail-requires-clause-filled : goal.count_or_fail-requires-clause-filled
count_or_fail-requires-clause-filled c =
    term_grown _ _ _ c.in_ok-filling.filling.memory
    (grows_on c.in_ok-fails.ensures.grows (grows_on c.in_ok-no_access.ensures.grows c.in_ok-no_write.ensures.grows))
    c.in_ok-filling.ensures.memory_term

pub count_or_fail-requires-clause-memory : goal.count_or_fail-requires-clause-memory
count_or_fail-requires-clause-memory c =
    term_grown _ _ _ c.args.memory
    (grows_on c.in_ok-filling.ensures.grows (grows_on c.in_ok-fails.ensures.grows
    (grows_on c.in_ok-no_access.ensures.grows c.in_ok-no_write.ensures.grows))) c.requires.memory

pub returns : goal.returns
returns c =
    λ x. replies_counted c.args.bounds.now c.args.fill x c.args.place c.args.bank.now c.fill_buffer.new.bank c.is_odd.new.bank c.neither.new.bank
    c.neither-2.new.bank c.count_or_fail.new.bank c.args.arguments.now c.args.memory c.in_ok-fails.fails c.in_ok-no_access.no_access
    c.in_ok-no_write.no_write c.in_ok-filling.filling c.in_ok-reply.reply c.args.bounds.now.heap_in_range.1 c.requires.counts
    c.in_ok-filling.ensures c.in_ok-fails.ensures c.in_ok-no_access.ensures c.in_ok-no_write.ensures c.in_ok-reply.ensures
