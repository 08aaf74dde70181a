use Rattle.path_calls.proofs.FillLemmas.{address_worded}
use Rattle.path_calls.proofs.fills.address_at.Goals as goal

pub returns : goal.returns
returns c =
    address_worded c.args.bank.now c.argument.new.bank c.address.new.bank c.args.arguments.now c.args.index c.in_ok-number.number c.in_ok-node.node
    c.in_ok-number.ensures c.in_ok-node.ensures
