use Rattle.term_bank.proofs.BankLemmas.{grows_on}
use Rattle.term_bank.proofs.TermLemmas.{term_grown}
use Rattle.path_numbers.proofs.Nodes.{flagged}
use Rattle.path_numbers.proofs.conversions.flag.Goals as goal

pub choose-requires-clause-yes : goal.choose-requires-clause-yes
choose-requires-clause-yes c = term_grown _ _ _ c.in_ok-one.one c.in_ok-zero.ensures.grows c.in_ok-one.ensures.node

pub choose-requires-clause-condition : goal.choose-requires-clause-condition
choose-requires-clause-condition c =
    term_grown _ _ _ c.args.truth (grows_on c.in_ok-one.ensures.grows c.in_ok-zero.ensures.grows) c.requires

pub returns : goal.returns
returns c =
    flagged c.args.bank.now c.word.new.self c.word-2.new.self c.choose.new.self c.args.truth c.in_ok-one.one c.in_ok-zero.zero c.in_ok-node.node
    c.in_ok-one.ensures c.in_ok-zero.ensures c.in_ok-node.ensures
