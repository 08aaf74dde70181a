use Rattle.c_language.specs.Integers.{number_of}
use Rattle.path_numbers.proofs.Operated.{surely}
use Rattle.path_numbers.proofs.comparing.told.Goals as goal

pub returns : goal.returns
returns c =
    rw c.sure.ensures
    (surely c.args.bank.now c.flag.new.bank c.in_ok-number.number (λ v. number_of (v c.args.truth.index).truth) c.in_ok-number.ensures)
