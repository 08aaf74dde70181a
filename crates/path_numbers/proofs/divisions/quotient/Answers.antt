use Rattle.path_states.specs.States.{number_in}
use Rattle.path_numbers.proofs.Operated.{dividing}
use Rattle.path_numbers.proofs.divisions.quotient.Goals as goal

pub returns : goal.returns
returns c =
    dividing c.args.bank.now c.operands.new.bank c.divided.new.bank c.args.word c.in_ok-words.words c.in_ok-quotient.quotient
    (λ v. number_in v c.args.left) (λ v. number_in v c.args.right) c.in_ok-words.ensures
    (rw c.operator_of-operator.ensures at c.in_ok-quotient.ensures)
