use Rattle.path_codes.proofs.Sequences.{tests_condition}
use Rattle.path_codes.proofs.below.Steps.condition.Goals as goal

pub part-requires : goal.part-requires
part-requires g c =
    rw c.as_slice.ensures c.in_ok-over.ensures.on

pub returns : goal.returns
returns g c =
    let parted = rw c.as_slice.ensures at c.in_ok-yes.ensures in
    let passed = (rw c.as_slice-2.ensures at c.in_ok-passed.ensures) c.args.self.now.room _ parted.no_states in
    rw c.in_ok-append.ensures.ok
    (tests_condition (g.C.Calls.around c.args.self.now.scene.now) c.args.frame.now c.args.self.now.room c.args.at c.args.test.now c.args.bank.now _ _ c.args.states.now _ c.args.place c.in_ok-over.field-0 c.in_ok-yes.field-0
    c.in_ok-over.ensures parted passed)
