use Rattle.path_codes.proofs.Statements.{walks_evaluated}
use Rattle.path_codes.proofs.below.Steps.expression.Goals as goal

pub rejoin-requires-clause-second : goal.rejoin-requires-clause-second
rejoin-requires-clause-second g c =
    ((rw c.as_slice.ensures at c.in_ok-passed.ensures) c.args.self.now.room _ c.in_ok-over.ensures.on).states

pub returns : goal.returns
returns g c =
    let passed = (rw c.as_slice.ensures at c.in_ok-passed.ensures) c.args.self.now.room _ c.in_ok-over.ensures.on in
    λ is_node.
    walks_evaluated (g.C.Calls.around c.args.self.now.scene.now) c.args.frame.now c.args.self.now.room is_node c.args.e.now c.args.bank.now _ _ c.args.states.now _ _ c.args.place c.in_ok-over.field-0 c.in_ok-over.ensures
    passed (c.in_ok-ran.ensures c.args.self.now.room)
