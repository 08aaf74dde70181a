use Rattle.term_bank.proofs.BankLemmas.{grows_on}
use Rattle.term_bank.proofs.TermLemmas.{term_grown}
use Rattle.run_formula.proofs.Sights.{or_other}
use Rattle.run_formula.proofs.observing.or_other.Goals as goal

pub connect-requires-clause-left : goal.connect-requires-clause-left
connect-requires-clause-left c = term_grown _ _ _ c.args.shown c.in_ok-other.ensures.grows c.requires.shown

pub connect-requires-2-clause-left : goal.connect-requires-2-clause-left
connect-requires-2-clause-left c =
    term_grown _ _ _ c.args.before (grows_on c.in_ok-other.ensures.grows c.in_ok-here.ensures.grows) c.requires.before

pub returns : goal.returns
returns c =
    or_other _ _ _ _ c.args.before c.args.list c.args.shown c.in_ok-other.other c.in_ok-here.here c.in_ok-node.node c.args.place c.args.value.now
    c.in_ok-other.ensures c.in_ok-here.ensures c.in_ok-node.ensures
