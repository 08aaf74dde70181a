use Rattle.term_bank.proofs.TermLemmas.{term_grown}
use Rattle.path_numbers.proofs.Nodes.{truthful}
use Rattle.path_numbers.proofs.conversions.truth.Goals as goal

pub test-requires-clause-left : goal.test-requires-clause-left
test-requires-clause-left c = term_grown _ _ _ c.args.number.node c.in_ok-zero.ensures.grows c.requires.term

pub returns : goal.returns
returns c =
    truthful c.args.bank.now c.word.new.self c.test.new.self c.not.new.self c.args.number c.in_ok-zero.zero c.in_ok-equal.equal c.in_ok-other.other
    c.requires c.in_ok-zero.ensures c.in_ok-equal.ensures c.in_ok-other.ensures
