use Rattle.run_starts.proofs.arguments.Arguments.+pointers.Given as goal

abbrev pub decreases-pointers : goal.decreases-pointers
decreases-pointers l = l.left
