use Rattle.path_steps.proofs.LeafLemmas.{followed}
use Rattle.path_steps.proofs.steps.then_each.Goals as goal

pub each-requires-clause-states : goal.each-requires-clause-states
each-requires-clause-states c = rw c.as_slice.ensures c.requires.states

pub returns : goal.returns
returns c =
    let walked = rw c.as_slice.ensures at c.in_ok-next.ensures in
    rw c.in_ok-append.ensures.ok (followed c.args.bank.now c.each.new.bank c.args.walked _ c.args.leaf walked)
