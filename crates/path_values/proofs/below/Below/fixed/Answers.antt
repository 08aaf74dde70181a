use Rattle.path_forms.proofs.Evaluated.{evaluates_fixed}
use Rattle.path_values.proofs.FormLemmas.{evaluated}
use Rattle.path_values.proofs.below.Below.fixed.Goals as goal

pub returns : goal.returns
returns g c =
    evaluated _ _ _ _ _ _ _ _ _ _ _ c.requires
    (evaluates_fixed _ _ _ _ _ _ _ _ _ c.in_ok-fixed.ensures)
