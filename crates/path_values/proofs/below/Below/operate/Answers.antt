use Rattle.path_forms.proofs.Evaluated.{evaluates_operate}
use Rattle.path_values.proofs.FormLemmas.{evaluated}
use Rattle.path_values.proofs.below.Below.operate.Goals as goal

pub returns-clause-evaluated : goal.returns-clause-evaluated
returns-clause-evaluated g c = λ is_constant.
    evaluated _ _ _ _ _ _ _ _ _ _ _ c.requires.starts
    (evaluates_operate _ _ _ _ _ _ _ _ _ _ _ _ _ _ _ _ c.in_ok-behind.ensures.evaluated.evaluates c.args.at c.args.operator
    is_constant c.in_ok-next.ensures.evaluated.evaluates c.in_ok-operate.ensures)
