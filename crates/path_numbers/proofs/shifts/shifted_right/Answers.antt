use Rattle.path_states.specs.States.{number_in}
use Rattle.path_states.proofs.Growth.{number_grown}
use Rattle.path_numbers.proofs.Operated.{right_shift}
use Rattle.path_numbers.proofs.shifts.shifted_right.Goals as goal

pub operands-requires-clause-left : goal.operands-requires-clause-left
operands-requires-clause-left c = number_grown c.in_ok-truth.ensures.grows c.args.left c.requires.left

pub operands-requires-clause-right : goal.operands-requires-clause-right
operands-requires-clause-right c = number_grown c.in_ok-truth.ensures.grows c.args.by c.requires.by

pub returns : goal.returns
returns c =
    right_shift c.args.bank.now c.far.new.bank c.operands.new.bank c.args.word c.in_ok-truth.truth c.in_ok-words.words
    (λ v. number_in v c.args.left) (λ v. number_in v c.args.by) c.in_ok-truth.ensures c.in_ok-words.ensures
    c.binary.new.self c.in_ok-node.node (rw c.operator_of-operator.ensures at c.in_ok-node.ensures)
