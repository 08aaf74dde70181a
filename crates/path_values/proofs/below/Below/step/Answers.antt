use Rattle.path_forms.proofs.Evaluated.{evaluates_step}
use Rattle.path_values.proofs.FormLemmas.{evaluated}
use Rattle.path_values.proofs.below.Below.step.Goals as goal

pub recall-requires-clause-scalar : goal.recall-requires-clause-scalar
recall-requires-clause-scalar g c =
    (c.in_ok-check_access.ensures (g.C.Calls.around c.args.self.now.scene.now)).scalar

pub raise-requires-clause-scalar : goal.raise-requires-clause-scalar
raise-requires-clause-scalar g c =
    (c.in_ok-check_access.ensures (g.C.Calls.around c.args.self.now.scene.now)).scalar

pub returns-clause-evaluated : goal.returns-clause-evaluated
returns-clause-evaluated g c =
    let can = c.in_ok-check_access.ensures (g.C.Calls.around c.args.self.now.scene.now) in
    evaluated _ _ _ _ _ _ _ _ _ _ _ c.requires.starts
    (evaluates_step _ _ _ _ _ _ _ _ _ _ _ _ c.in_ok-next.ensures.evaluated.evaluates c.args.at c.args.operator c.args.access
    c.args.answer _ _ can c.in_ok-recall.ensures c.in_ok-raise.ensures)
