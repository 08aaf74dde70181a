use Rattle.path_states.specs.States.{number_in}
use Rattle.path_numbers.proofs.Operated.{preceding}
use Rattle.path_numbers.proofs.comparing.less.Goals as goal

pub returns : goal.returns
returns c =
    preceding c.args.bank.now c.operands.new.bank c.args.word c.in_ok-words.words (λ v. number_in v c.args.left) (λ v. number_in v c.args.right)
    c.in_ok-words.ensures c.test.new.self c.in_ok-less.less (rw c.test_of-test.ensures at c.in_ok-less.ensures)
