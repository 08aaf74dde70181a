use Rattle.path_states.proofs.Growth.{states_grown}
use Rattle.run_formula.proofs.Sights.{states_from}
use Rattle.run_formula.proofs.sighting.sightings_of.Goals as goal

pub of_states-requires-clause-states : goal.of_states-requires-clause-states
of_states-requires-clause-states c = states_grown c.in_ok-told.ensures.grows c.args.states.now c.requires

pub returns : goal.returns
returns c =
    states_from _ _ _ c.args.log.now c.args.watch.now c.in_ok-lists.lists c.args.states.now c.in_ok-truths.truths c.in_ok-told.ensures.grows
    (rw c.as_slice-2.ensures at c.in_ok-truths.ensures)
