use Rattle.path_forms.proofs.Evaluated.{evaluates_comma}
use Rattle.path_values.proofs.FormLemmas.{evaluated, starts_on}
use Rattle.path_values.proofs.below.Below.comma.Goals as goal

pub value-requires-2-clause-starts : goal.value-requires-2-clause-starts
value-requires-2-clause-starts g c =
    starts_on _ _ _ _ _ c.in_ok-behind.ensures.evaluated.starts c.in_ok-leaf.ensures.grows c.in_ok-leaf.ensures.ready

pub returns-clause-evaluated : goal.returns-clause-evaluated
returns-clause-evaluated g c =
    evaluated _ _ _ _ _ _ _ _ _ _ _ c.requires.starts
    (evaluates_comma _ _ _ _ _ _ _ _ _ _ _ _ _ _ _ _ c.in_ok-behind.ensures.evaluated.evaluates c.in_ok-leaf.ensures
    c.in_ok-next.ensures.evaluated.evaluates)
