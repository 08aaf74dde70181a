use Rattle.path_states.specs.States.{number_in}
use Rattle.path_states.proofs.Growth.{number_grown}
use Rattle.term_bank.proofs.TermLemmas.{term_grown}
use Rattle.path_numbers.proofs.Operated.{left_shift}
use Rattle.path_numbers.proofs.shifts.shifted_left.Goals as goal

pub operands-requires-clause-left : goal.operands-requires-clause-left
operands-requires-clause-left c = number_grown c.in_ok-truth.ensures.grows c.args.left c.requires.left

pub operands-requires-clause-right : goal.operands-requires-clause-right
operands-requires-clause-right c = number_grown c.in_ok-truth.ensures.grows c.args.by c.requires.by

pub binary-requires-clause-left : goal.binary-requires-clause-left
binary-requires-clause-left c = term_grown _ _ _ c.in_ok-words.words.left c.in_ok-second.ensures.grows c.in_ok-words.ensures.left_term

pub binary-requires-clause-right : goal.binary-requires-clause-right
binary-requires-clause-right c = term_grown _ _ _ c.in_ok-words.words.right c.in_ok-second.ensures.grows c.in_ok-words.ensures.right_term

pub returns : goal.returns
returns c =
    left_shift c.args.bank.now c.far.new.bank c.operands.new.bank c.args.word c.in_ok-truth.truth c.in_ok-words.words
    (λ v. number_in v c.args.left) (λ v. number_in v c.args.by) c.in_ok-truth.ensures c.in_ok-words.ensures
    c.signed_fault.new.bank c.binary.new.self c.in_ok-node.node c.in_ok-second.second c.in_ok-second.ensures c.in_ok-node.ensures
