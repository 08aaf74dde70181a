use Rattle.term_bank.proofs.TermLemmas.{term_grown}
use Rattle.path_calls.proofs.FillLemmas.{least_word}
use Rattle.path_calls.proofs.fills.least.Goals as goal

pub choose-requires-clause-yes : goal.choose-requires-clause-yes
choose-requires-clause-yes c = term_grown _ _ _ c.args.left c.in_ok-below.ensures.grows c.requires.left

pub choose-requires-clause-no : goal.choose-requires-clause-no
choose-requires-clause-no c = term_grown _ _ _ c.args.right c.in_ok-below.ensures.grows c.requires.right

pub returns : goal.returns
returns c =
    least_word c.args.bank.now c.test.new.self c.choose.new.self c.args.left c.args.right c.in_ok-below.below c.in_ok-node.node c.in_ok-below.ensures
    c.in_ok-node.ensures
