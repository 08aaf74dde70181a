use Rattle.path_forms.proofs.Evaluated.{evaluates_local}
use Rattle.path_values.proofs.FormLemmas.{evaluated}
use Rattle.path_values.proofs.below.Below.local.Goals as goal

pub returns : goal.returns
returns g c =
    evaluated _ _ _ _ _ _ _ _ _ _ _ c.requires
    (evaluates_local _ _ _ _ _ _ _ _ _ c.in_ok-local.ensures)
