use Rattle.run_formula.proofs.Asked.{or_always, or_before}
use Rattle.run_formula.proofs.events.or_meant.Goals as goal

pub returns-then-meant : goal.returns-then-meant
returns-then-meant c = or_always _ _ c.args.before c.in_ok-always.always c.args.meant c.if-meant.true c.in_ok-always.ensures

pub returns : goal.returns
returns c = or_before c.args.bank.now c.args.before c.args.meant c.if-meant.false c.requires
