use Rattle.path_states.proofs.Growth.{states_grown}
use Rattle.run_formula.proofs.Asked.{states_from}
use Rattle.run_formula.proofs.asking.ask.Goals as goal

pub ask_told-requires-clause-states : goal.ask_told-requires-clause-states
ask_told-requires-clause-states c = states_grown c.in_ok-told.ensures.grows c.args.states.now c.requires

pub returns : goal.returns
returns c =
    states_from _ _ _ c.args.log.now c.args.question c.args.states.now c.in_ok-any.any c.in_ok-told.ensures.grows c.in_ok-any.ensures
