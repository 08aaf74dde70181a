use Rattle.path_forms.proofs.Reached.{reach_of}
use Rattle.path_forms.proofs.forms.leaf.Goals as goal

pub then_each-requires-clause-states : goal.then_each-requires-clause-states
then_each-requires-clause-states c = rw c.replace-now.ensures.value c.requires.ready.going

pub returns : goal.returns
returns c =
    let walked = rw c.replace-now.ensures.value at c.in_ok-done.ensures in
    reach_of c.args.room _ _ c.args.walked.now _ c.args.leaf c.requires.room walked
