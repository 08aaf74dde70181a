use Rattle.term_bank.proofs.TermLemmas.{term_grown}
use Rattle.path_calls.proofs.RequestLemmas.{zero_found}
use Rattle.path_calls.proofs.requests.is_zero.Goals as goal

pub test-requires-clause-left : goal.test-requires-clause-left
test-requires-clause-left c = term_grown _ _ _ c.args.word c.in_ok-zero.ensures.grows c.requires

pub returns : goal.returns
returns c =
    zero_found c.args.bank.now c.word.new.self c.test.new.self c.args.word c.in_ok-zero.zero c.in_ok-node.node c.in_ok-zero.ensures
    c.in_ok-node.ensures
