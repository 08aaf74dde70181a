use Rattle.term_bank.proofs.BankLemmas.{grows_on}
use Rattle.term_bank.proofs.TermLemmas.{term_grown}
use Rattle.path_arrows.proofs.Living.{bears_one}
use Rattle.path_arrows.proofs.objects.bear_one.Goals as goal

pub made-requires-clause-memory : goal.made-requires-clause-memory
made-requires-clause-memory c =
    term_grown _ _ _ c.args.memory (grows_on c.in_ok-number.ensures.grows c.in_ok-size.ensures.grows) c.requires

pub made-requires-clause-object : goal.made-requires-clause-object
made-requires-clause-object c = term_grown _ _ _ c.in_ok-number.number c.in_ok-size.ensures.grows c.in_ok-number.ensures.term

pub returns : goal.returns
returns c =
    bears_one _ _ _ _ c.args.memory c.in_ok-number.number c.in_ok-size.size c.in_ok-node.node c.args.object c.in_ok-number.ensures
    c.in_ok-size.ensures c.in_ok-node.ensures
