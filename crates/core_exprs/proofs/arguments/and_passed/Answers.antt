use Rattle.core_exprs.proofs.PassingLaws as laws
use Rattle.core_exprs.proofs.arguments.and_passed.Goals as goal

pub returns : goal.returns
returns c n faults ps p h k =
    laws.and_found n faults ps p c.args.before c.tables.result.now c.args.scope.now c.args.x c.in_ok-u.u c.in_ok-all.all
    c.tables.ensures h k c.in_ok-u.ensures c.in_ok-all.ensures
