use Rattle.core_exprs.proofs.CallLaws as laws
use Rattle.core_exprs.proofs.calls.call_at.Goals as goal

pub returns : goal.returns
returns g c =
    laws.made_at _ c.args.scope.now c.tables.result.now c.args.told c.args.site c.args.arguments c.in_ok-callee.callee
    c.type_as-answer.result c.in_ok-text.text c.tables.ensures c.type_as-answer.ensures c.in_ok-text.ensures
    c.in_ok-callee.ensures
