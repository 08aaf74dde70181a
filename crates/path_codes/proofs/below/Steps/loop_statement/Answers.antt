use Rattle.path_states.proofs.Growth.{states_grown}
use Rattle.path_codes.proofs.Sequences.{walks_looped}
use Rattle.path_codes.proofs.below.Steps.loop_statement.Goals as goal

pub turns-requires-clause-states : goal.turns-requires-clause-states
turns-requires-clause-states g c =
    rw c.as_slice.ensures (c.in_ok-running.ensures _ c.requires.states).running_states

pub rejoin-requires-clause-first : goal.rejoin-requires-clause-first
rejoin-requires-clause-first g c =
    states_grown c.in_ok-ran.ensures.grows c.in_ok-running.field-0.others (c.in_ok-running.ensures _ c.requires.states).other_states

pub rejoin-requires-clause-second : goal.rejoin-requires-clause-second
rejoin-requires-clause-second g c =
    ((rw c.as_slice-2.ensures at c.in_ok-there.ensures) c.args.self.now.room _ c.in_ok-ran.ensures.states).states

pub returns : goal.returns
returns g c =
    let sifted = c.in_ok-running.ensures c.args.bank.now c.requires.states in
    let ran = rw c.as_slice.ensures at c.in_ok-ran.ensures in
    let there = (rw c.as_slice-2.ensures at c.in_ok-there.ensures) c.args.self.now.room _ c.in_ok-ran.ensures.states in
    walks_looped (g.C.Calls.around c.args.self.now.scene.now) c.args.frame.now c.args.self.now.room c.args.at c.args.test.now c.args.step.now c.args.body.now c.args.bank.now _ _ c.args.states.now _ _ _ c.args.place _ c.in_ok-running.field-0
    (rw c.in_ok-room.ensures at c.in_ok-next.ensures) sifted ran there (c.in_ok-all.ensures c.args.self.now.room)
