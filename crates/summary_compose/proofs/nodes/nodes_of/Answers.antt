use Rattle.std.proofs.Common.{take, []}
use Rattle.std.proofs.lemmas.List.{take_all}
use Rattle.path_states.proofs.Paths.{more_of}
use Rattle.summary_compose.specs.Renaming.{state_nodes}
use Rattle.summary_compose.proofs.Lists.{grown_more}
use Rattle.summary_compose.proofs.nodes.nodes_of.Goals as goal

pub loop-state-preserved : goal.loop-state-preserved
loop-state-preserved c =
    let i = c.loop-state.state-index in
    rw (more_of c.args.states.now i c.state-item.result c.loop-state-test.true c.state-item.is)
    (grown_more state_nodes [] c.loop-state.nodes c.put_state.new.nodes (take i c.args.states.now) c.state-item.result
    c.loop-state.invariant c.in_ok-put_state.ensures)

pub returns : goal.returns
returns c = rw (take_all c.loop-state.state-index c.args.states.now c.loop-state-test.false) at c.loop-state.invariant
