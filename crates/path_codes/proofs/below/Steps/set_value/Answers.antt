use Rattle.path_states.proofs.Growth.{states_grown}
use Rattle.path_codes.proofs.Stored.{walks_set}
use Rattle.path_codes.proofs.below.Steps.set_value.Goals as goal

pub rejoin-requires-clause-first : goal.rejoin-requires-clause-first
rejoin-requires-clause-first g c =
    states_grown c.in_ok-set.ensures.grows c.in_ok-over.field-0.over c.in_ok-over.ensures.over

pub returns : goal.returns
returns g c =
    walks_set (g.C.Calls.around c.args.self.now.scene.now) c.args.frame.now c.args.self.now.room c.args.object c.args.bytes c.args.stored c.args.e.now c.args.bank.now _ _ _ c.args.states.now _ _ c.args.place c.in_ok-over.field-0
    c.in_ok-over.ensures c.in_ok-set.ensures (c.in_ok-all.ensures c.args.self.now.room)
