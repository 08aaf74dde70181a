use Rattle.path_forms.proofs.Evaluated.{evaluates_update}
use Rattle.path_values.proofs.FormLemmas.{evaluated, starts_on}
use Rattle.path_values.proofs.below.Below.update.Goals as goal

pub recall-requires-clause-scalar : goal.recall-requires-clause-scalar
recall-requires-clause-scalar g c =
    (c.in_ok-check_access.ensures (g.C.Calls.around c.args.self.now.scene.now)).scalar

pub leaf-requires-clause-leaf : goal.leaf-requires-clause-leaf
leaf-requires-clause-leaf g c =
    (c.in_ok-check_access.ensures (g.C.Calls.around c.args.self.now.scene.now)).scalar

pub value-requires-2-clause-starts : goal.value-requires-2-clause-starts
value-requires-2-clause-starts g c =
    starts_on _ _ _ _ _ c.in_ok-behind.ensures.evaluated.starts c.in_ok-recall.ensures.grows c.in_ok-recall.ensures.ready

pub returns-clause-evaluated : goal.returns-clause-evaluated
returns-clause-evaluated g c =
    let can = c.in_ok-check_access.ensures (g.C.Calls.around c.args.self.now.scene.now) in
    evaluated _ _ _ _ _ _ _ _ _ _ _ c.requires.starts
    (evaluates_update _ _ _ _ _ _ _ _ _ _ _ _ _ _ _ _ c.in_ok-behind.ensures.evaluated.evaluates c.args.at c.args.operator
    c.args.access _ _ _ _ can c.in_ok-recall.ensures c.in_ok-next.ensures.evaluated.evaluates c.in_ok-operate.ensures c.in_ok-leaf.ensures)
