use Rattle.term_bank.proofs.BankLemmas.{grows_on}
use Rattle.term_bank.proofs.TermLemmas.{term_grown}
use Rattle.path_steps.proofs.PartLemmas.{parted_one}
use Rattle.path_steps.proofs.parting.part_one.Goals as goal

pub halve-requires-clause-guard : goal.halve-requires-clause-guard
halve-requires-clause-guard c = term_grown _ _ _ _ c.in_ok-truth.ensures.grows c.in_ok-operand.ensures.state.guard

pub noted-requires : goal.noted-requires
noted-requires c =
    term_grown _ _ _ _ (grows_on c.in_ok-truth.ensures.grows c.in_ok-sides.ensures.grows) c.in_ok-operand.ensures.state.events

pub noted-requires-2 : goal.noted-requires-2
noted-requires-2 c =
    term_grown _ _ _ _
    (grows_on (grows_on c.in_ok-truth.ensures.grows c.in_ok-sides.ensures.grows) c.in_ok-yes.ensures.happened.grows)
    c.in_ok-operand.ensures.state.events

pub returns : goal.returns
returns c =
    rw (c.in_ok-push.ensures.ok, c.in_ok-push-2.ensures.ok, c.new.ensures, c.new-2.ensures)
    (parted_one c.args.bank.now c.pop.new.bank c.truth.new.bank c.halve.new.bank c.noted.new.bank c.noted-2.new.bank c.args.state
    c.pop.new.state c.in_ok-operand.operand c.in_ok-truth.truth c.in_ok-sides.sides.yes c.in_ok-sides.sides.no c.args.at c.in_ok-yes.yes
    c.in_ok-no.no c.in_ok-operand.ensures c.in_ok-truth.ensures c.in_ok-sides.ensures c.in_ok-yes.ensures c.in_ok-no.ensures)
