use Rattle.run_formula.proofs.Sights.{nevers_none, nevers_more}
use Rattle.run_formula.proofs.joining.nevers.Goals as goal

pub nodes-init : goal.nodes-init
nodes-init c = rw c.new-all.ensures (nevers_none c.args.bank.now _ c.in_ok-never.ensures.grows)

pub nodes-preserved : goal.nodes-preserved
nodes-preserved c =
    nevers_more c.args.bank.now _ c.nodes._index c.nodes.all _ c.in_ok-never.never c.in_ok-never.ensures c.nodes.invariant c.in_ok-push.ensures.ok
