use Rattle.term_bank.proofs.TermLemmas.{term_grown}
use Rattle.path_states.proofs.Growth.{number_grown}
use Rattle.path_steps.proofs.PointerTerms.{are_apart}
use Rattle.path_steps.proofs.operators.apart.Goals as goal

pub elements-requires-clause-left : goal.elements-requires-clause-left
elements-requires-clause-left c = number_grown c.in_ok-together.ensures.grows c.args.left c.requires.left

pub elements-requires-clause-right : goal.elements-requires-clause-right
elements-requires-clause-right c = number_grown c.in_ok-together.ensures.grows c.args.right c.requires.right

pub where_so-requires-clause-allowed : goal.where_so-requires-clause-allowed
where_so-requires-clause-allowed c = term_grown _ _ _ c.in_ok-together.together c.in_ok-number.ensures.grows c.in_ok-together.ensures.term

pub returns : goal.returns
returns c =
    are_apart c.args.bank.now c.are_together.new.bank c.elements.new.bank c.where_so.new.bank c.args.memory c.in_ok-together.together c.args.at
    c.args.size c.args.left c.args.right c.in_ok-number.number c.in_ok-operated.operated c.in_ok-together.ensures c.in_ok-number.ensures
    (c.in_ok-operated.ensures (λ v. (v c.args.memory.index).store))
