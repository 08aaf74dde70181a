use Rattle.term_bank.proofs.TermLemmas.{term_grown}
use Rattle.path_calls.proofs.FillLemmas.{odd_truth}
use Rattle.path_calls.proofs.fills.is_odd.Goals as goal

pub binary-requires-clause-left : goal.binary-requires-clause-left
binary-requires-clause-left c = term_grown _ _ _ c.in_ok-word.word c.in_ok-one.ensures.grows c.in_ok-word.ensures.term

pub test-requires-clause-right : goal.test-requires-clause-right
test-requires-clause-right c = term_grown _ _ _ c.in_ok-one.one c.in_ok-bit.ensures.grows c.in_ok-one.ensures.node

pub returns : goal.returns
returns c =
    odd_truth c.args.place c.args.bank.now c.asked.new.bank c.word.new.self c.binary.new.self c.test.new.self c.in_ok-word.word c.in_ok-one.one
    c.in_ok-bit.bit c.in_ok-node.node c.in_ok-word.ensures c.in_ok-one.ensures c.in_ok-bit.ensures c.in_ok-node.ensures
