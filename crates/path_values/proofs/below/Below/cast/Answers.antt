use Rattle.path_forms.proofs.Evaluated.{evaluates_cast}
use Rattle.path_values.proofs.FormLemmas.{evaluated}
use Rattle.path_values.proofs.below.Below.cast.Goals as goal

pub returns-clause-evaluated : goal.returns-clause-evaluated
returns-clause-evaluated g c =
    evaluated _ _ _ _ _ _ _ _ _ _ _ c.requires.starts
    (evaluates_cast _ _ _ _ _ _ _ _ _ _ _ _ c.in_ok-next.ensures.evaluated.evaluates c.args.to c.in_ok-leaf.ensures)
