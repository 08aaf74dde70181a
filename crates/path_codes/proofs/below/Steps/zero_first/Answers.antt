use Rattle.path_states.proofs.Growth.{states_grown}
use Rattle.path_codes.proofs.Zeroed.{zeroes_true, zeroes_false}
use Rattle.path_codes.proofs.below.Steps.zero_first.Goals as goal

pub zero-requires : goal.zero-requires
zero-requires g c = rw c.as_slice.ensures (c.in_ok-running.ensures _ c.requires).running_states

pub rejoin-requires-clause-first : goal.rejoin-requires-clause-first
rejoin-requires-clause-first g c =
    states_grown c.in_ok-zeroed.ensures.grows c.in_ok-running.field-0.others (c.in_ok-running.ensures _ c.requires).other_states

pub returns-then-not-is_zeroed : goal.returns-then-not-is_zeroed
returns-then-not-is_zeroed g c =
    rw c.if-not-is_zeroed.true
    (zeroes_false c.args.self.now.room c.args.object c.args.size c.args.bank.now c.args.states.now _ (c.in_ok-passed.ensures c.args.self.now.room c.args.bank.now c.requires))

pub returns : goal.returns
returns g c =
    let zeroed = rw c.as_slice.ensures at c.in_ok-zeroed.ensures in
    rw c.if-not-is_zeroed.false
    (zeroes_true c.args.self.now.room c.args.object c.args.size c.args.bank.now _ _ c.args.states.now _ _ c.in_ok-running.field-0 (c.in_ok-running.ensures c.args.bank.now c.requires) zeroed
    (c.in_ok-all.ensures c.args.self.now.room))
