use Rattle.core_exprs.proofs.EachForm as each
use Rattle.plain_data.proofs.Tried.{of_ok}
use Rattle.core_exprs.proofs.forms.subscript.Goals as goal

pub returns : goal.returns
returns c n p q =
    of_ok c.args.x c.in_ok-parts.parts.0 _ c.in_ok-parts.ensures.0
    (of_ok c.args.y c.in_ok-parts.parts.1 _ c.in_ok-parts.ensures.1 (λ h i.
    each.on_subscript n c.args.at c.tables-tables.result.now c.args.scope.now c.in_ok-parts.parts.0
    c.in_ok-parts.parts.1 p q c.in_ok-y.y c.in_ok-z.z
    c.plain.result c.tables-tables.ensures h i c.in_ok-y.ensures c.in_ok-z.ensures c.plain.ensures))
