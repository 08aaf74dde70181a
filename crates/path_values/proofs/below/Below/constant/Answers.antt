use Rattle.path_forms.proofs.Evaluated.{evaluates_constant}
use Rattle.path_values.proofs.FormLemmas.{evaluated}
use Rattle.path_values.proofs.below.Below.constant.Goals as goal

pub returns : goal.returns
returns g c =
    evaluated _ _ _ _ _ _ _ _ _ _ _ c.requires
    (evaluates_constant _ _ _ _ _ _ _ _ _ c.in_ok-constant.ensures)
