use Rattle.path_states.proofs.Growth.{states_grown}
use Rattle.path_codes.proofs.Statements.{walks_returned}
use Rattle.path_codes.proofs.below.Steps.return_value.Goals as goal

pub give-requires : goal.give-requires
give-requires g c =
    rw c.as_slice.ensures c.in_ok-over.ensures.on

pub rejoin-requires-clause-first : goal.rejoin-requires-clause-first
rejoin-requires-clause-first g c =
    states_grown (c.in_ok-given.ensures c.args.self.now.room).grows c.in_ok-over.field-0.over c.in_ok-over.ensures.over

pub rejoin-requires-clause-second : goal.rejoin-requires-clause-second
rejoin-requires-clause-second g c =
    (c.in_ok-given.ensures c.args.self.now.room).states

pub returns : goal.returns
returns g c =
    let given = (rw c.as_slice.ensures at c.in_ok-given.ensures) c.args.self.now.room in
    walks_returned (g.C.Calls.around c.args.self.now.scene.now) c.args.frame.now c.args.self.now.room c.args.e.now c.args.bank.now _ _ _ c.args.states.now _ _ c.args.place c.in_ok-over.field-0 c.in_ok-over.ensures
    given (c.in_ok-ran.ensures c.args.self.now.room)
