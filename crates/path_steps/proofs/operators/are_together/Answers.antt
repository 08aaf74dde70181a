use Rattle.term_bank.proofs.BankLemmas.{grows_on}
use Rattle.term_bank.proofs.TermLemmas.{term_grown}
use Rattle.path_states.proofs.Growth.{number_grown}
use Rattle.path_steps.proofs.PointerTerms.{together_made}
use Rattle.path_steps.proofs.operators.are_together.Goals as goal

pub address-requires-2 : goal.address-requires-2
address-requires-2 c = number_grown c.in_ok-first.ensures.grows c.args.right c.requires.right

pub in_one_object-requires-clause-memory : goal.in_one_object-requires-clause-memory
in_one_object-requires-clause-memory c =
    term_grown _ _ _ c.args.memory (grows_on c.in_ok-first.ensures.grows c.in_ok-second.ensures.grows) c.requires.memory

pub in_one_object-requires-clause-left : goal.in_one_object-requires-clause-left
in_one_object-requires-clause-left c = term_grown _ _ _ c.in_ok-first.first c.in_ok-second.ensures.grows c.in_ok-first.ensures.term

pub returns : goal.returns
returns c =
    together_made c.args.bank.now c.address.new.bank c.address-2.new.bank c.in_one_object.new.bank c.args.memory c.in_ok-first.first
    c.in_ok-second.second c.in_ok-together.together c.args.left c.args.right c.in_ok-first.ensures c.in_ok-second.ensures c.in_ok-together.ensures
