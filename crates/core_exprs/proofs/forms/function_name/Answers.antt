use Rattle.std.proofs.Common.{sym}
use Rattle.core_exprs.proofs.EachForm as each
use Rattle.core_exprs.proofs.forms.function_name.Goals as goal

pub returns : goal.returns
returns g c =
    each.on_function_name _ c.args.at c.function.result.now c.args.scope.now.function c.args.scope.now c.in_ok-x.x
    c.plain.result c.function.ensures (c.in_ok-x.ensures c.args.scope.now (sym c.tables.ensures)) c.plain.ensures
