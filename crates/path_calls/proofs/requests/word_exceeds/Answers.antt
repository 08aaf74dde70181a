use Rattle.term_bank.proofs.TermLemmas.{term_grown}
use Rattle.path_calls.proofs.RequestLemmas.{above_found}
use Rattle.path_calls.proofs.requests.word_exceeds.Goals as goal

pub test-requires-clause-right : goal.test-requires-clause-right
test-requires-clause-right c = term_grown _ _ _ c.args.word c.in_ok-bound.ensures.grows c.requires

pub returns : goal.returns
returns c =
    let made = rw c.from.ensures at c.in_ok-bound.ensures in
    above_found c.args.bank.now c.word.new.self c.test.new.self c.args.most c.args.word c.in_ok-bound.bound c.in_ok-node.node made c.in_ok-node.ensures
