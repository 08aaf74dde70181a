use Rattle.core_exprs.proofs.EachForm as each
use Rattle.plain_data.proofs.Tried.{of_try}
use Rattle.core_exprs.proofs.forms.size_of_type.Goals as goal

pub returns : goal.returns
returns c n =
    of_try c.args.named c.branch-named.result c.in_ok-named.named _ c.branch-named.ensures c.in_ok-named.is
    (each.on_type_size n c.args.at c.tables.result.now
    c.args.scope.now c.in_ok-named.named.ctype c.in_ok-named.named.faults c.in_ok-z.z
    c.plain.result c.tables.ensures c.in_ok-z.ensures c.plain.ensures)
