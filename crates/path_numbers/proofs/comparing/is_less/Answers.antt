use Rattle.std.proofs.Common.{Bool}
use Rattle.std.specs.Prelude.{Ok}
use Rattle.c_language.specs.Integers.{number_of}
use Rattle.core_tree.specs.Numbers.{precedes}
use Rattle.path_states.specs.States.{number_in}
use Rattle.path_numbers.proofs.Operated.{answers_after}
use Rattle.path_numbers.proofs.comparing.is_less.Goals as goal

pub returns : goal.returns
returns c =
    answers_after c.args.bank.now c.less.new.bank c.told.new.bank c.in_ok-answer.answer c.in_ok-truth.truth
    (λ v. precedes c.args.word (number_in v c.args.left) (number_in v c.args.right)) (λ (k : Bool). Ok (number_of (k))) c.in_ok-truth.ensures
    c.in_ok-answer.ensures
