use Rattle.term_bank.proofs.TermLemmas.{term_grown}
use Rattle.path_calls.proofs.PlaceLemmas.{tells_place}
use Rattle.path_calls.proofs.placing.place_number.Goals as goal

pub binary-requires-clause-left : goal.binary-requires-clause-left
binary-requires-clause-left c = term_grown _ _ _ c.in_ok-base.base c.in_ok-more.ensures.grows c.in_ok-base.ensures.node

pub returns : goal.returns
returns c =
    tells_place c.args.place c.args.bank.now c.base.new.self c.word.new.self c.binary.new.self c.in_ok-base.base c.in_ok-more.more c.in_ok-node.node
    c.in_ok-base.ensures c.in_ok-more.ensures c.in_ok-node.ensures
