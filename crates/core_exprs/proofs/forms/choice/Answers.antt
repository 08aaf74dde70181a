use Rattle.core_exprs.proofs.EachForm as each
use Rattle.plain_data.proofs.Tried.{both_of, of_ok}
use Rattle.core_exprs.proofs.forms.choice.Goals as goal

pub returns : goal.returns
returns c n r p q =
    let parts = c.in_ok-parts.parts in
    let each_ok = both_of c.args.x c.args.y c.both_ok-choices.result parts.1 c.both_ok-choices.ensures
    c.in_ok-parts.ensures.1 in
    of_ok c.args.condition parts.0 _ c.in_ok-parts.ensures.0 (of_ok c.args.x parts.1.0 _ each_ok.0
    (of_ok c.args.y parts.1.1 _ each_ok.1 (λ g h i.
    each.on_choice n c.args.at c.tables-tables.result.now c.args.scope.now parts.0 parts.1.0 parts.1.1 r p q
    c.in_ok-y.y c.in_ok-z.z c.plain.result c.tables-tables.ensures g h i c.in_ok-y.ensures c.in_ok-z.ensures
    c.plain.ensures)))
