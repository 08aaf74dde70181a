use Rattle.core_exprs.proofs.EachForm as each
use Rattle.plain_data.proofs.Tried.{of_try}
use Rattle.core_exprs.proofs.forms.postfix.Goals as goal

pub returns : goal.returns
returns c n p =
    of_try c.args.x c.branch-x.result c.in_ok-x.x _ c.branch-x.ensures c.in_ok-x.is (λ h.
    each.on_postfix n c.args.at c.args.operator c.tables.result.now c.args.scope.now c.in_ok-x.x p
    c.in_ok-z.z c.plain.result c.tables.ensures h c.in_ok-z.ensures c.plain.ensures)
