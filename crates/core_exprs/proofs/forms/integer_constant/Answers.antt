use Rattle.core_exprs.proofs.EachForm as each
use Rattle.core_exprs.proofs.forms.integer_constant.Goals as goal

pub returns : goal.returns
returns c n s =
    each.on_integer n c.args.at c.args.constant.now s c.in_ok-x.x c.plain.result c.in_ok-x.ensures c.plain.ensures
