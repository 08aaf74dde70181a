use Rattle.path_codes.proofs.Pieces.{evaluates}
use Rattle.path_codes.proofs.below.Steps.evaluate.Goals as goal

pub walk_value-requires-clause-states : goal.walk_value-requires-clause-states
walk_value-requires-clause-states g c =
    rw c.as_slice.ensures (c.in_ok-running.ensures _ c.requires.states).running_states

pub returns : goal.returns
returns g c =
    let sifted = c.in_ok-running.ensures c.args.bank.now c.requires.states in
    let walked = rw c.as_slice.ensures at c.in_ok-walked.ensures in
    rw c.in_ok-append.ensures.ok
    (evaluates (g.C.Calls.around c.args.self.now.scene.now) c.args.frame.now c.args.self.now.room c.args.e.now c.args.bank.now _ c.args.states.now c.args.place c.in_ok-walked.field-0.next c.in_ok-running.field-0
    c.in_ok-walked.field-0.walked sifted walked)
