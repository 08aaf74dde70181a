use Rattle.path_forms.proofs.Evaluated.{evaluates_store}
use Rattle.path_values.proofs.FormLemmas.{evaluated}
use Rattle.path_values.proofs.below.Below.store.Goals as goal

pub leaf-requires-clause-leaf : goal.leaf-requires-clause-leaf
leaf-requires-clause-leaf g c =
    (c.in_ok-check_access.ensures (g.C.Calls.around c.args.self.now.scene.now)).scalar

pub returns-clause-evaluated : goal.returns-clause-evaluated
returns-clause-evaluated g c =
    let can = c.in_ok-check_access.ensures (g.C.Calls.around c.args.self.now.scene.now) in
    evaluated _ _ _ _ _ _ _ _ _ _ _ c.requires.starts
    (evaluates_store _ _ _ _ _ _ _ _ _ _ _ _ _ _ _ _ c.in_ok-second.ensures.evaluated.evaluates c.args.at c.args.access can
    c.in_ok-next.ensures.evaluated.evaluates c.in_ok-leaf.ensures)
