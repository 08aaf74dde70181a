use Rattle.path_states.proofs.Growth.{states_grown}
use Rattle.path_codes.proofs.Statements.{walks_block}
use Rattle.path_codes.proofs.below.Steps.block.Goals as goal

pub lived-requires-clause-states : goal.lived-requires-clause-states
lived-requires-clause-states g c =
    rw c.as_slice.ensures (c.in_ok-running.ensures _ c.requires.states).running_states

pub rejoin-requires-clause-first : goal.rejoin-requires-clause-first
rejoin-requires-clause-first g c =
    states_grown c.in_ok-ran.ensures.grows c.in_ok-running.field-0.others (c.in_ok-running.ensures _ c.requires.states).other_states

pub returns : goal.returns
returns g c =
    let sifted = c.in_ok-running.ensures c.args.bank.now c.requires.states in
    let ran = rw c.as_slice.ensures at c.in_ok-ran.ensures in
    λ is_node.
    walks_block (g.C.Calls.around c.args.self.now.scene.now) c.args.frame.now c.args.self.now.room is_node c.args.items.now c.args.bank.now _ _ c.args.states.now _ c.args.place c.in_ok-running.field-0 c.in_ok-ran.field-0
    sifted ran (c.in_ok-all.ensures c.args.self.now.room)
