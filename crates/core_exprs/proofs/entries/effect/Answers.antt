use Rattle.c_means.specs.Trees.{part}
use Rattle.plain_data.proofs.Tried.{with_ok}
use Rattle.core_exprs.proofs.entries.effect.Goals as goal

pub returns-clause-effect : goal.returns-clause-effect
returns-clause-effect g c =
    with_ok c.core_of-x.result _ _ _ c.core_of-x.ensures (c.in_ok-u.ensures _ _) (λ x found does. does found)

pub returns-clause-after : goal.returns-clause-after
returns-clause-after g c =
    with_ok c.core_of-x.result _ _ _ c.core_of-x.ensures (c.in_ok-u.ensures (g.C.Places.numbering c.args.callees.now)
    (part c.args.expr.now c.args.scope.now))
    (λ x found does. found.after)
