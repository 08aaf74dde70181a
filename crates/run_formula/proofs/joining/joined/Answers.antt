use Rattle.term_bank.proofs.TermLemmas.{term_grown}
use Rattle.run_formula.proofs.Sights.{joins_guarded}
use Rattle.run_formula.proofs.joining.joined.Goals as goal

pub connect-requires-in-Guarded-2-clause-left : goal.connect-requires-in-Guarded-2-clause-left
connect-requires-in-Guarded-2-clause-left c = term_grown _ _ _ c.args.one c.in_ok-under-in-Guarded.ensures.grows c.requires.one

pub returns-in_ok-node-in-Guarded : goal.returns-in_ok-node-in-Guarded
returns-in_ok-node-in-Guarded c =
    rw c.in-Guarded.is
    (joins_guarded _ _ _ c.in-Guarded.guard c.args.one c.args.other c.in_ok-under-in-Guarded.under c.in_ok-node-in-Guarded.node c.in_ok-under-in-Guarded.ensures
    c.in_ok-node-in-Guarded.ensures)
