use Rattle.core_exprs.proofs.EachForm as each
use Rattle.core_exprs.proofs.forms.character_constant.Goals as goal

pub returns : goal.returns
returns c n s =
    each.on_character n c.args.at c.args.value.now s c.in_ok-x.x c.plain.result c.in_ok-x.ensures c.plain.ensures
