use Rattle.core_exprs.proofs.EachForm as each
use Rattle.core_exprs.proofs.forms.string_literal.Goals as goal

pub returns : goal.returns
returns g c =
    each.on_literal _ c.args.at c.args.pieces.now c.tables.result.now c.args.scope.now c.in_ok-built.built
    c.in_ok-text.text c.tables.ensures c.in_ok-built.ensures c.in_ok-text.ensures
