use Rattle.term_bank.proofs.BankLemmas.{grows_on}
use Rattle.term_bank.proofs.TermLemmas.{term_grown}
use Rattle.path_codes.proofs.Cases.{selects_case}
use Rattle.path_codes.proofs.selecting.select_case.Goals as goal

pub halve-requires-clause-guard : goal.halve-requires-clause-guard
halve-requires-clause-guard c = term_grown _ _ _ _ c.in_ok-same.ensures.grows c.requires.state.guard

pub chosen_case-requires : goal.chosen_case-requires
chosen_case-requires c = term_grown _ _ _ _ (grows_on c.in_ok-same.ensures.grows c.in_ok-sides.ensures.grows) c.requires.state.events

pub returns : goal.returns
returns c =
    rw (c.in_ok-push.ensures.ok, c.in_ok-other.ensures)
    (selects_case c.args.at c.args.word c.args.number c.args.state.now c.args.bank.now _ _ _ c.args.all.now c.args.case.now
    c.in_ok-same.same c.in_ok-sides.sides.yes c.in_ok-sides.sides.no c.in_ok-here.here c.requires.state c.requires.number
    c.requires.all c.in_ok-same.ensures c.in_ok-sides.ensures c.in_ok-here.ensures)
