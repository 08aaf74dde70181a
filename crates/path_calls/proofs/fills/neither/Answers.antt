use Rattle.path_calls.proofs.FillLemmas.{neither_truth}
use Rattle.path_calls.proofs.fills.neither.Goals as goal

pub returns : goal.returns
returns c =
    neither_truth c.args.bank.now c.connect.new.self c.not.new.self c.args.first c.args.second c.in_ok-either.either c.in_ok-node.node
    c.in_ok-either.ensures c.in_ok-node.ensures
