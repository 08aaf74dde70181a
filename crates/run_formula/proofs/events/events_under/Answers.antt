use Rattle.term_bank.specs.Shapes.{IsNode}
use Rattle.term_bank.proofs.TermLemmas.{node_of}
use Rattle.path_states.proofs.Paths.{item_of}
use Rattle.run_formula.proofs.Asked.{each_put}
use Rattle.run_formula.proofs.events.events_under.Goals as goal

pub loop-state-preserved : goal.loop-state-preserved
loop-state-preserved c =
    let state = item_of _ c.loop-state.state-index c.args.states.now c.state-item.result c.requires c.loop-state-test.true c.state-item.is in
    rw c.in_ok-push.ensures.ok (each_put (IsNode c.args.bank.now) c.loop-state.roots c.state-item.result.events c.loop-state.invariant (node_of _ _ _ state.events))
