use Rattle.plain_data.specs.Words.{word}
use Rattle.path_states.specs.States.{number_in}
use Rattle.path_states.proofs.Growth.{number_grown}
use Rattle.path_numbers.proofs.Operated.{both_words}
use Rattle.path_numbers.proofs.operators.operands.Goals as goal

pub in_width-requires-2 : goal.in_width-requires-2
in_width-requires-2 c = number_grown c.in_ok-left.ensures.grows c.args.right c.requires.right

pub returns : goal.returns
returns c =
    both_words c.args.bank.now c.in_width.new.bank c.in_width-2.new.bank c.args.width c.in_ok-left.left c.in_ok-right.right
    (λ v. word c.args.width (number_in v c.args.left)) (λ v. word c.args.width (number_in v c.args.right))
    c.in_ok-left.ensures c.in_ok-right.ensures
