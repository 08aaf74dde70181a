use Rattle.run_formula.proofs.Started.{becomes_then}
use Rattle.run_formula.proofs.starts.make_object.Goals as goal

pub returns : goal.returns
returns c =
    becomes_then _ _ _ c.args.memory c.in_ok-made.made c.in_ok-node.node _ _ c.in_ok-made.ensures c.in_ok-node.ensures
