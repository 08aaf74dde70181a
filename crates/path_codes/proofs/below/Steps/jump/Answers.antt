use Rattle.path_codes.proofs.Statements.{walks_jumped}
use Rattle.path_codes.proofs.below.Steps.jump.Goals as goal

pub rejoin-requires-clause-first : goal.rejoin-requires-clause-first
rejoin-requires-clause-first g c =
    (c.in_ok-running.ensures _ c.requires.states).other_states

pub rejoin-requires-clause-second : goal.rejoin-requires-clause-second
rejoin-requires-clause-second g c =
    ((rw c.as_slice.ensures at c.in_ok-jumped.ensures) c.args.self.now.room _ (c.in_ok-running.ensures _ c.requires.states).running_states).states

pub returns : goal.returns
returns g c =
    let sifted = c.in_ok-running.ensures c.args.bank.now c.requires.states in
    let jumped = (rw c.as_slice.ensures at c.in_ok-jumped.ensures) c.args.self.now.room _ sifted.running_states in
    walks_jumped (g.C.Calls.around c.args.self.now.scene.now) c.args.frame.now c.args.self.now.room c.args.kind.now c.args.bank.now _ c.args.states.now _ _ c.args.place c.in_ok-running.field-0 sifted jumped (c.in_ok-ran.ensures c.args.self.now.room)
