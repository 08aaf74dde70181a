use Rattle.path_steps.proofs.Exiting.{leaves_some}
use Rattle.path_steps.proofs.settling.leave.Goals as goal

pub returns : goal.returns
returns c =
    rw (c.in-Some.is, c.in_ok-push.ensures.ok, c.in_ok-left.ensures, c.new.ensures)
    (leaves_some c.args.bank.now c.halve.new.bank c.args.state.now c.args.guard c.in_ok-sides.sides.yes c.in_ok-sides.sides.no c.in-Some.exit
    c.args.ended.now c.requires.state c.requires.ended c.in_ok-sides.ensures)
