use Rattle.term_bank.proofs.BankLemmas.{grows_on}
use Rattle.path_states.proofs.Growth.{numbers_grown}
use Rattle.path_codes.proofs.Functions.{entry_state, embodies}
use Rattle.path_codes.proofs.bodies.walk_body.Goals as goal
use Rattle.path_forms.proofs.Started.{stays_on}

pub walk_function-requires-clause-ready : goal.walk_function-requires-clause-ready
walk_function-requires-clause-ready g c = stays_on c.requires.ready (grows_on c.in_ok-guard.ensures.grows c.in_ok-events.ensures.grows)

pub walk_function-requires-clause-states : goal.walk_function-requires-clause-states
walk_function-requires-clause-states g c =
    rw (c.as_slice.ensures, c.in_ok-states.ensures, c.new.ensures)
    (entry_state c.args.bank.now _ _ c.in_ok-guard.guard c.in_ok-events.events c.args.memory c.args.position c.requires.memory
    c.in_ok-guard.ensures c.in_ok-events.ensures)

pub walk_function-requires-clause-arguments : goal.walk_function-requires-clause-arguments
walk_function-requires-clause-arguments g c =
    numbers_grown (grows_on c.in_ok-guard.ensures.grows c.in_ok-events.ensures.grows) c.args.arguments.now c.requires.arguments

pub returns : goal.returns
returns g c =
    let walked = rw (c.as_slice.ensures, c.in_ok-states.ensures, c.new.ensures) at c.in_ok-ended.ensures in
    embodies (g.C.Calls.around c.args.scene.now) c.args.room c.args.function.now c.args.arguments.now c.args.bank.now _ _ _ c.in_ok-guard.guard
    c.in_ok-events.events c.args.memory c.args.position _ c.requires.memory c.in_ok-guard.ensures c.in_ok-events.ensures walked
