use Rattle.term_bank.proofs.TermLemmas.{term_grown}
use Rattle.path_calls.proofs.PlaceLemmas.{tells_start}
use Rattle.path_calls.proofs.placing.first_address.Goals as goal

pub binary-requires-clause-left : goal.binary-requires-clause-left
binary-requires-clause-left c = term_grown _ _ _ c.in_ok-number.number c.in_ok-bits.ensures.grows c.in_ok-number.ensures.term

pub returns : goal.returns
returns c =
    tells_start c.args.place c.args.bank.now c.place_number.new.bank c.word.new.self c.binary.new.self c.in_ok-number.number c.in_ok-bits.bits
    c.in_ok-node.node c.in_ok-number.ensures c.in_ok-bits.ensures c.in_ok-node.ensures
