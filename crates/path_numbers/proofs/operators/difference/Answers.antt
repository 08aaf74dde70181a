use Rattle.path_states.specs.States.{number_in}
use Rattle.path_numbers.proofs.Operated.{differing}
use Rattle.path_numbers.proofs.operators.difference.Goals as goal

pub returns : goal.returns
returns c =
    differing c.args.bank.now c.operands.new.bank c.fitting.new.bank c.args.word c.in_ok-words.words c.in_ok-difference.difference
    (λ v. number_in v c.args.left) (λ v. number_in v c.args.right) c.in_ok-words.ensures c.in_ok-difference.ensures
