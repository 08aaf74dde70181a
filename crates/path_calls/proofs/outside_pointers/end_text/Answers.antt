use Rattle.std.proofs.Common.{arith}
use Rattle.term_bank.proofs.BankLemmas.{grows_on}
use Rattle.term_bank.proofs.TermLemmas.{term_grown}
use Rattle.path_calls.proofs.PlaceLemmas.{changes_ended}
use Rattle.path_calls.proofs.outside_pointers.end_text.Goals as goal

pub binary-requires-clause-left : goal.binary-requires-clause-left
binary-requires-clause-left c = term_grown _ _ _ c.in_ok-first.first c.in_ok-behind.ensures.grows c.in_ok-first.ensures.term

pub zero_range-requires-clause-memory : goal.zero_range-requires-clause-memory
zero_range-requires-clause-memory c =
    term_grown _ _ _ c.args.memory
    (grows_on c.in_ok-first.ensures.grows (grows_on c.in_ok-behind.ensures.grows
    (grows_on c.in_ok-address.ensures.grows c.in_ok-length.ensures.grows))) c.requires.memory

pub zero_range-requires-clause-from : goal.zero_range-requires-clause-from
zero_range-requires-clause-from c = term_grown _ _ _ c.in_ok-address.address c.in_ok-length.ensures.grows c.in_ok-address.ensures.node

pub returns : goal.returns
returns c =
    changes_ended c.args.place c.args.last c.args.bank.now c.first_address.new.bank c.word.new.self c.binary.new.self c.word-2.new.self
    c.zero_range.new.bank c.args.memory c.in_ok-first.first c.in_ok-behind.behind c.in_ok-address.address c.in_ok-length.length c.in_ok-node.node
    (omega (arith, c.ranges.last.fits)) c.in_ok-first.ensures c.in_ok-behind.ensures c.in_ok-address.ensures c.in_ok-length.ensures c.in_ok-node.ensures
