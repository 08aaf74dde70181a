use Rattle.core_tree.specs.Numbers.{worked}
use Rattle.path_states.specs.States.{number_in}
use Rattle.path_steps.proofs.OperatorLemmas.{answered}
use Rattle.path_steps.proofs.operators.on_numbers.Goals as goal

pub returns : goal.returns
returns c =
    λ store. rw (c.exit_of.ensures, c.exit_of-2.ensures)
    (answered c.args.bank.now c.worked.new.bank c.args.at c.in_ok-tested.tested
    (λ v. worked c.args.operator c.args.word (number_in v c.args.left) (number_in v c.args.right)) store c.in_ok-tested.ensures)
