use Rattle.path_numbers.proofs.Operated.{denied_flag}
use Rattle.path_numbers.proofs.comparing.denied.Goals as goal

pub returns : goal.returns
returns c =
    rw c.sure.ensures
    (denied_flag c.args.bank.now c.not.new.self c.flag.new.bank c.args.truth c.in_ok-other.other c.in_ok-number.number c.in_ok-other.ensures
    c.in_ok-number.ensures)
