use Rattle.term_bank.proofs.BankLemmas.{grows_on}
use Rattle.term_bank.proofs.TermLemmas.{term_grown}
use Rattle.path_numbers.proofs.Operated.{division}
use Rattle.path_numbers.proofs.divisions.divided.Goals as goal

pub test-requires-clause-left : goal.test-requires-clause-left
test-requires-clause-left c = term_grown _ _ _ c.args.words.right c.in_ok-zero.ensures.grows c.requires.right

pub signed_fault-requires-clause-left : goal.signed_fault-requires-clause-left
signed_fault-requires-clause-left c = term_grown _ _ _ c.args.words.left (grows_on c.in_ok-zero.ensures.grows c.in_ok-truth.ensures.grows) c.requires.left

pub signed_fault-requires-clause-right : goal.signed_fault-requires-clause-right
signed_fault-requires-clause-right c = term_grown _ _ _ c.args.words.right (grows_on c.in_ok-zero.ensures.grows c.in_ok-truth.ensures.grows) c.requires.right

pub binary-requires-clause-left : goal.binary-requires-clause-left
binary-requires-clause-left c =
    term_grown _ _ _ c.args.words.left (grows_on (grows_on c.in_ok-zero.ensures.grows c.in_ok-truth.ensures.grows) c.in_ok-second.ensures.grows) c.requires.left

pub binary-requires-clause-right : goal.binary-requires-clause-right
binary-requires-clause-right c =
    term_grown _ _ _ c.args.words.right (grows_on (grows_on c.in_ok-zero.ensures.grows c.in_ok-truth.ensures.grows) c.in_ok-second.ensures.grows) c.requires.right

pub returns : goal.returns
returns c =
    division c.args.bank.now c.word.new.self c.test.new.self c.signed_fault.new.bank c.binary.new.self c.args.word c.args.operator
    c.args.words.left c.args.words.right c.in_ok-zero.zero c.in_ok-truth.truth c.in_ok-node.node c.in_ok-second.second
    c.in_ok-zero.ensures c.in_ok-truth.ensures c.in_ok-second.ensures c.in_ok-node.ensures
