use Rattle.path_prints.proofs.WatchLemmas.{sees}
use Rattle.path_prints.proofs.watching.see.Goals as goal

pub returns : goal.returns
returns c =
    sees c.args.bank.now c.address_of.new.bank c.read.new.bank c.spelled.new.bank c.args.frame.now c.args.room c.args.memory c.in_ok-address.address
    c.in_ok-node.node c.in-Some.width c.args.x.now c.in_ok-number.number c.in-Some.ensures.scalar c.in-Some.ensures.width c.in_ok-address.ensures
    c.in_ok-node.ensures c.in_ok-number.ensures
