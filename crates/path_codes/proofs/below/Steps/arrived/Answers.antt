use Rattle.path_codes.proofs.Statements.{walks_arrived}
use Rattle.core_tree.specs.Codes.{code}
use Rattle.path_codes.proofs.below.Steps.arrived.Goals as goal

pub part-requires-clause-states : goal.part-requires-clause-states
part-requires-clause-states g c =
    rw c.as_slice.ensures (c.in_ok-there.ensures c.args.self.now.room c.args.bank.now c.requires.states).states

pub returns : goal.returns
returns g c =
    let walked = rw c.as_slice.ensures at c.in_ok-coded.ensures in
    λ more.
    walks_arrived (g.C.Calls.around c.args.self.now.scene.now) c.args.frame.now c.args.self.now.room c.args.point.now more (code c.args.body.now) c.args.bank.now _ c.args.states.now _ c.args.place c.in_ok-coded.coded
    (c.in_ok-there.ensures c.args.self.now.room c.args.bank.now c.requires.states) walked
