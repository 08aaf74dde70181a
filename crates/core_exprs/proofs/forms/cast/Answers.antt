use Rattle.core_exprs.proofs.EachForm as each
use Rattle.plain_data.proofs.Tried.{of_ok}
use Rattle.core_exprs.proofs.forms.cast.Goals as goal

pub returns : goal.returns
returns c n p =
    of_ok c.args.to c.in_ok-parts.parts.0 _ c.in_ok-parts.ensures.0
    (of_ok c.args.x c.in_ok-parts.parts.1 _ c.in_ok-parts.ensures.1 (λ h.
    each.on_cast n c.args.at c.tables.result.now c.args.scope.now c.in_ok-parts.parts.0.ctype
    c.in_ok-parts.parts.0.faults c.in_ok-parts.parts.1 p c.in_ok-u.u
    c.in_ok-z.z c.plain.result c.tables.ensures h c.in_ok-u.ensures c.in_ok-z.ensures c.plain.ensures))
