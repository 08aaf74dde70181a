use Rattle.std.proofs.Common.{◌≡◌, take}
use Rattle.summary_compose.specs.Renaming.{each_of, state_nodes}
use Rattle.summary_compose.proofs.nodes.nodes_of.Given as goal

abbrev pub invariant-loop-state : goal.invariant-loop-state
invariant-loop-state l = l.nodes ≡ each_of state_nodes (take l.state-index l.states)
