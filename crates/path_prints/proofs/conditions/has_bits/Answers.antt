use Rattle.term_bank.proofs.TermLemmas.{term_grown}
use Rattle.path_prints.proofs.ConditionLemmas.{met_equal}
use Rattle.path_prints.proofs.conditions.has_bits.Goals as goal

pub test-requires-clause-left : goal.test-requires-clause-left
test-requires-clause-left c = term_grown _ _ _ c.in_ok-word.word c.in_ok-wanted.ensures.grows c.in_ok-word.ensures.term

pub returns : goal.returns
returns c =
    met_equal c.args.bank.now c.in_width.new.bank c.word.new.self c.test.new.self c.args.number c.args.bits c.args.width c.in_ok-word.word
    c.in_ok-wanted.wanted c.in_ok-equal.equal c.in_ok-word.ensures c.in_ok-wanted.ensures c.in_ok-equal.ensures
