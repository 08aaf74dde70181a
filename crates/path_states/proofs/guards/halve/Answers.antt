use Rattle.term_bank.specs.declared.sort.Sort.TheVariants.{Truth}
use Rattle.term_bank.proofs.BankLemmas.{grows_on}
use Rattle.term_bank.proofs.TermLemmas.{term_grown}
use Rattle.path_states.proofs.Chosen.{halved}
use Rattle.path_states.proofs.guards.halve.Goals as goal

pub connect-requires-clause-left : goal.connect-requires-clause-left
connect-requires-clause-left c = term_grown c.args.bank.now c.not.new.self Truth c.args.guard c.in_ok-other.ensures.grows c.requires.guard

pub connect-requires-clause-right : goal.connect-requires-clause-right
connect-requires-clause-right c = term_grown c.args.bank.now c.not.new.self Truth c.args.truth c.in_ok-other.ensures.grows c.requires.truth

pub connect-requires-2-clause-left : goal.connect-requires-2-clause-left
connect-requires-2-clause-left c =
    term_grown c.args.bank.now c.connect.new.self Truth c.args.guard (grows_on c.in_ok-other.ensures.grows c.in_ok-yes.ensures.grows) c.requires.guard

pub connect-requires-2-clause-right : goal.connect-requires-2-clause-right
connect-requires-2-clause-right c =
    term_grown c.not.new.self c.connect.new.self Truth c.in_ok-other.other c.in_ok-yes.ensures.grows c.in_ok-other.ensures.node

pub returns : goal.returns
returns c =
    halved c.args.bank.now c.not.new.self c.connect.new.self c.connect-2.new.self c.args.guard c.args.truth c.in_ok-other.other
    c.in_ok-yes.yes c.in_ok-no.no c.in_ok-other.ensures.grows c.in_ok-other.ensures.value c.in_ok-yes.ensures.grows
    c.in_ok-yes.ensures.node c.in_ok-yes.ensures.value c.in_ok-no.ensures.grows c.in_ok-no.ensures.node c.in_ok-no.ensures.value
