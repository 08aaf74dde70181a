use Rattle.path_forms.proofs.Evaluated.{evaluates_convert}
use Rattle.path_values.proofs.FormLemmas.{evaluated}
use Rattle.path_values.proofs.below.Below.convert.Goals as goal

pub returns-clause-evaluated : goal.returns-clause-evaluated
returns-clause-evaluated g c =
    evaluated _ _ _ _ _ _ _ _ _ _ _ c.requires.starts
    (evaluates_convert _ _ _ _ _ _ _ _ _ _ _ _ c.in_ok-next.ensures.evaluated.evaluates c.args.to c.in_ok-leaf.ensures)
