use Rattle.path_states.proofs.Growth.{states_grown}
use Rattle.path_codes.proofs.Laid.{walks_text}
use Rattle.path_codes.proofs.below.Steps.set_text.Goals as goal

pub lay-requires : goal.lay-requires
lay-requires g c = rw c.as_slice.ensures (c.in_ok-running.ensures _ c.requires).running_states

pub rejoin-requires-clause-first : goal.rejoin-requires-clause-first
rejoin-requires-clause-first g c =
    states_grown c.in_ok-laid.ensures.grows c.in_ok-running.field-0.others (c.in_ok-running.ensures _ c.requires).other_states

pub returns : goal.returns
returns g c =
    let laid = rw c.as_slice.ensures at c.in_ok-laid.ensures in
    λ frame.
    walks_text (g.C.Calls.around c.args.self.now.scene.now) frame c.args.self.now.room c.args.object c.args.bytes c.args.size c.args.text.now c.args.bank.now
    _ _ c.args.states.now _ _ c.args.place c.in_ok-running.field-0 (c.in_ok-running.ensures c.args.bank.now c.requires) laid
    (c.in_ok-all.ensures c.args.self.now.room)
