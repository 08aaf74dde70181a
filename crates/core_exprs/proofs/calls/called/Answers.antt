use Rattle.std.proofs.lemmas.Result.{IfOk-weaker}
use Rattle.core_exprs.proofs.CallLaws as laws
use Rattle.core_exprs.proofs.calls.called.Goals as goal

pub returns : goal.returns
returns g c f ps same shown named h =
    IfOk-weaker c.call_at.result _ _ (λ x k. laws.call_found _ c.args.at f ps c.args.scope.now c.args.function
    c.args.callee shown named c.args.xs h c.args.name c.in_ok-told.told
    c.in_ok-ctype.ctype c.in_ok-types.types c.in_ok-values.values x same
    c.in_ok-types.ensures c.in_ok-values.ensures c.in_ok-told.ensures c.in_ok-ctype.ensures
    k) c.call_at.ensures
