use Rattle.path_forms.proofs.Evaluated.{evaluates_not}
use Rattle.path_values.proofs.FormLemmas.{evaluated}
use Rattle.path_values.proofs.below.Below.not.Goals as goal

pub returns-clause-evaluated : goal.returns-clause-evaluated
returns-clause-evaluated g c =
    evaluated _ _ _ _ _ _ _ _ _ _ _ c.requires.starts
    (evaluates_not _ _ _ _ _ _ _ _ _ _ _ _ c.in_ok-next.ensures.evaluated.evaluates c.in_ok-leaf.ensures)
