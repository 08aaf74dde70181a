use Rattle.path_forms.proofs.ArgumentLemmas.{evaluates_call}
use Rattle.path_values.proofs.FormLemmas.{evaluated}
use Rattle.path_values.proofs.below.Below.call.Goals as goal

pub returns-clause-evaluated : goal.returns-clause-evaluated
returns-clause-evaluated g c =
    evaluated _ _ _ _ _ _ _ _ _ _ _ c.requires.starts
    (evaluates_call _ _ _ _ _ _ _ _ _ _ _ _ _ _ _ _ _ c.in_ok-behind.ensures.evaluated.evaluates c.in_ok-next.ensures c.in_ok-call_each.ensures)
