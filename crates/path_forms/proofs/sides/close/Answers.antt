use Rattle.path_steps.specs.Leaves.{leaf_way}
use Rattle.path_forms.proofs.Reached.{ready_grown}
use Rattle.path_forms.proofs.SideLemmas.{closed}
use Rattle.path_forms.proofs.sides.close.Goals as goal

pub leaf-requires-2-clause-ready : goal.leaf-requires-2-clause-ready
leaf-requires-2-clause-ready c = ready_grown _ _ _ c.in_ok-leaf.ensures.grows c.requires.no

pub meet-requires-clause-yes : goal.meet-requires-clause-yes
meet-requires-clause-yes c = ready_grown _ _ _ c.in_ok-leaf-2.ensures.grows c.in_ok-leaf.ensures.ready

pub returns : goal.returns
returns c =
    closed c.args.room _ _ _ _ c.args.sides _ _ _ (leaf_way c.args.first) (leaf_way c.args.second) c.in_ok-leaf.ensures
    c.in_ok-leaf-2.ensures c.in_ok-closed.ensures
