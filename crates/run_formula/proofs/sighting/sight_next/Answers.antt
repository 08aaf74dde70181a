use Rattle.std.proofs.Common.{sym}
use Rattle.run_formula.proofs.Sights.{all_more}
use Rattle.run_formula.proofs.sighting.sight_next.Goals as goal

pub returns-in-Some : goal.returns-in-Some
returns-in-Some c =
    let look = c.args.look.now in
    all_more look.log.now look.watch.now look.lists.now c.args.bank.now _ c.args.told.now _ c.args.number c.in-Some.shape c.in_ok-nodes.nodes
    c.requires (sym c.in-Some.ensures.shape) c.in_ok-nodes.ensures c.in_ok-set_truths.ensures
