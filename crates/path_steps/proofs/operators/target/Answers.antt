use Rattle.term_bank.proofs.BankLemmas.{grows_on}
use Rattle.path_states.proofs.Growth.{number_grown}
use Rattle.path_steps.proofs.PointerTerms.{target_made}
use Rattle.path_steps.proofs.operators.target.Goals as goal

pub worked-requires-clause-left : goal.worked-requires-clause-left
worked-requires-clause-left c = number_grown c.in_ok-wide.ensures.grows c.args.count c.requires.count

pub worked-requires-2-clause-left : goal.worked-requires-2-clause-left
worked-requires-2-clause-left c =
    number_grown (grows_on c.in_ok-wide.ensures.grows c.in_ok-bytes.ensures.grows) c.args.from c.requires.from

pub returns : goal.returns
returns c =
    target_made c.args.bank.now c.number_of_size.new.bank c.worked.new.bank c.worked-2.new.bank c.address.new.bank c.args.from c.args.count
    c.in_ok-wide.wide c.in_ok-bytes.bytes c.in_ok-to.to c.in_ok-node.node c.args.size c.args.back c.in_ok-wide.ensures c.in_ok-bytes.ensures
    (rw c.towards.ensures at c.in_ok-to.ensures) c.in_ok-node.ensures
