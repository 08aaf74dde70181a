use Rattle.core_exprs.proofs.EachForm as each
use Rattle.core_exprs.proofs.unary.plus.Goals as goal

pub returns : goal.returns
returns c n p h =
    each.on_plus n c.args.at c.tables-tables.result.now c.args.scope.now c.args.x p c.in_ok-v.v
    c.in_ok-z.z c.plain.result c.tables-tables.ensures h c.in_ok-v.ensures c.in_ok-z.ensures c.plain.ensures
