use Rattle.path_numbers.proofs.Operated.{one_fault}
use Rattle.term_bank.proofs.TermLemmas.{term_grown}
use Rattle.path_numbers.proofs.operators.fitting.Goals as goal

pub binary-requires-clause-left : goal.binary-requires-clause-left
binary-requires-clause-left c = term_grown _ _ _ c.args.words.left c.in_ok-first.ensures.grows c.requires.left

pub binary-requires-clause-right : goal.binary-requires-clause-right
binary-requires-clause-right c = term_grown _ _ _ c.args.words.right c.in_ok-first.ensures.grows c.requires.right

pub returns : goal.returns
returns c =
    one_fault c.args.bank.now c.signed_fault.new.bank c.binary.new.self c.args.word c.args.operator c.args.test c.args.words.left c.args.words.right
    c.in_ok-node.node c.in_ok-first.first c.in_ok-first.ensures c.in_ok-node.ensures
