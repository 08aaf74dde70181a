use Rattle.std.proofs.lemmas.Result.{IfOk-weaker}
use Rattle.core_exprs.proofs.EachForm as each
use Rattle.plain_data.proofs.Tried.{of_try}
use Rattle.core_exprs.proofs.forms.unused.Goals as goal

pub returns : goal.returns
returns c n p =
    IfOk-weaker c.discarded.result _ _ (λ y m. of_try c.args.x c.branch-x.result c.in_ok-x.x _ c.branch-x.ensures c.in_ok-x.is
    (λ h. each.on_unused n c.tables.result.now c.args.scope.now c.in_ok-x.x p y c.tables.ensures h m)) c.discarded.ensures
