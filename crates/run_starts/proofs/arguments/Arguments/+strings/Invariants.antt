use Rattle.run_starts.proofs.arguments.Arguments.+strings.Given as goal

abbrev pub decreases-strings : goal.decreases-strings
decreases-strings l = l.left
