use Rattle.path_states.specs.States.{number_in}
use Rattle.path_numbers.proofs.Operated.{remaining}
use Rattle.path_numbers.proofs.divisions.remainder.Goals as goal

pub returns : goal.returns
returns c =
    remaining c.args.bank.now c.operands.new.bank c.divided.new.bank c.args.word c.in_ok-words.words c.in_ok-remainder.remainder
    (λ v. number_in v c.args.left) (λ v. number_in v c.args.right) c.in_ok-words.ensures
    (rw c.operator_of-operator.ensures at c.in_ok-remainder.ensures)
