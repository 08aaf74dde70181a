use Rattle.path_states.specs.States.{number_in}
use Rattle.path_numbers.proofs.Operated.{differing_words}
use Rattle.path_numbers.proofs.comparing.unequal.Goals as goal

pub returns : goal.returns
returns c =
    differing_words c.args.bank.now c.operands.new.bank c.args.word c.in_ok-words.words (λ v. number_in v c.args.left)
    (λ v. number_in v c.args.right) c.in_ok-words.ensures c.test.new.self c.not.new.self c.in_ok-equal.equal c.in_ok-unequal.unequal
    c.in_ok-equal.ensures c.in_ok-unequal.ensures
