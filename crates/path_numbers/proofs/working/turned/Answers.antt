use Rattle.core_tree.specs.Numbers.{wrapped}
use Rattle.path_states.specs.States.{number_in}
use Rattle.path_states.proofs.Growth.{number_grown}
use Rattle.path_numbers.proofs.Operated.{surely, negative, complemented}
use Rattle.path_numbers.proofs.working.turned.Goals as goal

pub returns-in_ok-number-in-Plus : goal.returns-in_ok-number-in-Plus
returns-in_ok-number-in-Plus c =
    rw (c.sure.ensures, c.in-Plus.is)
    (surely c.args.bank.now c.wrapped.new.bank c.in_ok-number-in-Plus.number (λ v. wrapped c.args.word (number_in v c.args.number))
    c.in_ok-number-in-Plus.ensures)

pub difference-requires-clause-right : goal.difference-requires-clause-right
difference-requires-clause-right c = number_grown c.in_ok-zero-in-Minus.ensures.grows c.args.number c.requires

pub returns-in_ok-negative-in-Minus : goal.returns-in_ok-negative-in-Minus
returns-in_ok-negative-in-Minus c =
    rw c.in-Minus.is
    (negative c.args.bank.now c.constant.new.bank c.difference.new.bank c.args.word c.in_ok-zero-in-Minus.zero c.in_ok-negative-in-Minus.negative
    (λ v. number_in v c.args.number) c.in_ok-zero-in-Minus.ensures c.in_ok-negative-in-Minus.ensures)

pub on_words-requires-clause-right : goal.on_words-requires-clause-right
on_words-requires-clause-right c = number_grown c.in_ok-ones-in-Complement.ensures.grows c.args.number c.requires

pub returns-in_ok-other-in-Complement : goal.returns-in_ok-other-in-Complement
returns-in_ok-other-in-Complement c =
    rw c.in-Complement.is
    (complemented c.args.bank.now c.constant-in-Complement.new.bank c.on_words.new.bank c.args.word c.in_ok-ones-in-Complement.ones
    c.in_ok-other-in-Complement.other (λ v. number_in v c.args.number) c.in_ok-ones-in-Complement.ensures c.in_ok-other-in-Complement.ensures)
