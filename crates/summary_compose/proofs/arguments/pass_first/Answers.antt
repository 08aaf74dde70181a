use Rattle.summary_compose.proofs.Passed.{passes_first}
use Rattle.summary_compose.proofs.arguments.pass_first.Goals as goal

pub returns : goal.returns
returns c =
    passes_first c.args.bank.now _ c.args.parameter c.args.number c.args.others.now c.in_ok-node.node c.args.nodes.now c.push.new.self
    c.requires.others c.in_ok-node.ensures c.in_ok-push.ensures.ok
