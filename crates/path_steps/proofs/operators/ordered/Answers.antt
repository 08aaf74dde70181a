use Rattle.term_bank.proofs.TermLemmas.{term_grown}
use Rattle.path_states.proofs.Growth.{number_grown}
use Rattle.path_steps.proofs.PointerTerms.{are_ordered}
use Rattle.path_steps.proofs.operators.ordered.Goals as goal

pub worked-requires-clause-left : goal.worked-requires-clause-left
worked-requires-clause-left c = number_grown c.in_ok-together.ensures.grows c.args.left c.requires.left

pub worked-requires-clause-right : goal.worked-requires-clause-right
worked-requires-clause-right c = number_grown c.in_ok-together.ensures.grows c.args.right c.requires.right

pub where_so-requires-clause-allowed : goal.where_so-requires-clause-allowed
where_so-requires-clause-allowed c = term_grown _ _ _ c.in_ok-together.together c.in_ok-tested.ensures.grows c.in_ok-together.ensures.term

pub returns : goal.returns
returns c =
    are_ordered c.args.bank.now c.are_together.new.bank c.worked.new.bank c.where_so.new.bank c.args.memory c.in_ok-together.together c.args.at
    c.args.relation c.args.left c.args.right c.in_ok-tested.tested c.in_ok-operated.operated c.in_ok-together.ensures
    (rw c.ordering.ensures at c.in_ok-tested.ensures) (c.in_ok-operated.ensures (λ v. (v c.args.memory.index).store))
