use Rattle.path_states.specs.States.{number_in}
use Rattle.path_numbers.proofs.Operated.{by_words}
use Rattle.path_numbers.proofs.working.on_words.Goals as goal

pub returns : goal.returns
returns c =
    rw c.sure.ensures
    (by_words c.args.bank.now c.operands.new.bank c.args.word c.in_ok-words.words (λ v. number_in v c.args.left) (λ v. number_in v c.args.right)
    c.in_ok-words.ensures c.binary.new.self c.args.operator c.in_ok-node.node c.in_ok-node.ensures)
