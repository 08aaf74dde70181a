use Rattle.path_calls.proofs.beginning.+take_arguments.Given as goal

abbrev pub decreases-take_arguments : goal.decreases-take_arguments
decreases-take_arguments l = l.count
