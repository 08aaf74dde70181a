use Rattle.term_bank.proofs.BankLemmas.{grows_on}
use Rattle.term_bank.proofs.TermLemmas.{term_grown}
use Rattle.path_numbers.proofs.Operated.{of_not_true, of_not_false}
use Rattle.path_steps.proofs.Naturals.{natural_unsigned, natural_signed}
use Rattle.path_steps.proofs.addresses.natural.Goals as goal

pub returns-then-not-number : goal.returns-then-not-number
returns-then-not-number c =
    natural_unsigned c.args.bank.now c.in_width.new.bank c.args.number c.in_ok-node.node c.requires
    (of_not_true c.args.number.word.is_signed c.if-not-number.true) c.in_ok-node.ensures

pub test-requires-clause-left : goal.test-requires-clause-left
test-requires-clause-left c = term_grown _ _ _ c.in_ok-node.node c.in_ok-zero.ensures.grows c.in_ok-node.ensures.term

pub binary-requires-clause-left : goal.binary-requires-clause-left
binary-requires-clause-left c = term_grown _ _ _ c.in_ok-zero.zero c.in_ok-negative.ensures.grows c.in_ok-zero.ensures.node

pub binary-requires-clause-right : goal.binary-requires-clause-right
binary-requires-clause-right c =
    term_grown _ _ _ c.in_ok-node.node (grows_on c.in_ok-zero.ensures.grows c.in_ok-negative.ensures.grows) c.in_ok-node.ensures.term

pub choose-requires-clause-condition : goal.choose-requires-clause-condition
choose-requires-clause-condition c = term_grown _ _ _ c.in_ok-negative.negative c.in_ok-opposite.ensures.grows c.in_ok-negative.ensures.node

pub choose-requires-clause-no : goal.choose-requires-clause-no
choose-requires-clause-no c =
    term_grown _ _ _ c.in_ok-node.node
    (grows_on (grows_on c.in_ok-zero.ensures.grows c.in_ok-negative.ensures.grows) c.in_ok-opposite.ensures.grows) c.in_ok-node.ensures.term

pub returns : goal.returns
returns c =
    natural_signed c.args.bank.now c.in_width.new.bank c.word.new.self c.test.new.self c.binary.new.self c.choose.new.self c.args.number
    c.in_ok-node.node c.in_ok-zero.zero c.in_ok-negative.negative c.in_ok-opposite.opposite c.in_ok-natural.natural c.requires
    (of_not_false c.args.number.word.is_signed c.if-not-number.false) c.in_ok-node.ensures c.in_ok-zero.ensures c.in_ok-negative.ensures
    c.in_ok-opposite.ensures c.in_ok-natural.ensures
