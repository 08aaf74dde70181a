use Rattle.path_calls.proofs.ReplyLemmas.{replies_never}
use Rattle.path_calls.proofs.outside_pointers.never_null.Goals as goal

pub returns : goal.returns
returns c =
    replies_never c.args.bank.now c.object.new.bank c.first_address.new.bank c.args.bounds.now.outside c.args.place c.args.pointee c.args.memory
    c.in_ok-memory.memory c.in_ok-node.node c.in_ok-memory.ensures c.in_ok-node.ensures
