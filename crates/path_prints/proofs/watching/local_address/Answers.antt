use Rattle.term_bank.proofs.TermLemmas.{term_grown}
use Rattle.path_prints.proofs.WatchLemmas.{is_behind}
use Rattle.path_prints.proofs.watching.local_address.Goals as goal

pub binary-requires-2-clause-left : goal.binary-requires-2-clause-left
binary-requires-2-clause-left c = term_grown _ _ _ c.in_ok-place.place c.in_ok-bits.ensures.grows c.in_ok-place.ensures.node

pub returns : goal.returns
returns c =
    is_behind c.args.offset c.args.bank.now c.base.new.self c.word.new.self c.binary.new.self c.word-2.new.self c.binary-2.new.self
    c.in_ok-base.base c.in_ok-more.more c.in_ok-place.place c.in_ok-bits.bits c.in_ok-node.node c.in_ok-base.ensures c.in_ok-more.ensures
    c.in_ok-place.ensures c.in_ok-bits.ensures c.in_ok-node.ensures
