use Rattle.std.proofs.Common.{refl}
use Rattle.c_language.specs.Typing as says
use Rattle.core_exprs.proofs.EachForm as each
use Rattle.core_exprs.proofs.forms.floating_constant.Goals as goal

pub returns : goal.returns
returns c n s =
    each.on_unmeant n (says.floating_constant c.args.at s) (says.floating_told c.args.at) s c.in_ok-x.x c.plain.result
    c.in_ok-x.ensures refl refl c.plain.ensures
