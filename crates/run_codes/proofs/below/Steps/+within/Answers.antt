use Rattle.run_codes.proofs.Bound.{unbound}
use Rattle.run_codes.proofs.below.Steps.+within.Goals as goal

pub returns-in_ok-bind-in-Some-2-clause-env : goal.returns-in_ok-bind-in-Some-2-clause-env
returns-in_ok-bind-in-Some-2-clause-env g t c =
    unbound _ _ _ _ _ _ _ c.number-outer.ensures c.in_ok-bind-in-Some.ensures c.in_ok-next-in-Some.ensures.env
    c.in_ok-bind-in-Some-2.ensures
