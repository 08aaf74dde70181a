use Rattle.core_exprs.proofs.EachForm as each
use Rattle.core_exprs.proofs.forms.identifier.Goals as goal

pub returns : goal.returns
returns g c =
    each.on_name _ c.args.at c.args.scope.now _ _ c.in_ok-x.x c.plain.result c.declared.ensures c.in_ok-x.ensures
    c.plain.ensures
