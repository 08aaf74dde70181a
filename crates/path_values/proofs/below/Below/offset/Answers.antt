use Rattle.path_forms.proofs.Evaluated.{evaluates_offset}
use Rattle.path_values.proofs.FormLemmas.{evaluated}
use Rattle.path_values.proofs.below.Below.offset.Goals as goal

pub returns-clause-evaluated : goal.returns-clause-evaluated
returns-clause-evaluated g c =
    evaluated _ _ _ _ _ _ _ _ _ _ _ c.requires.starts
    (evaluates_offset _ _ _ _ _ _ _ _ _ _ _ _ c.in_ok-next.ensures.evaluated.evaluates c.args.bytes c.in_ok-leaf.ensures)
