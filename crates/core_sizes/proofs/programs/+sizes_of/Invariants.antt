use Rattle.core_sizes.proofs.programs.+sizes_of.Given as goal

abbrev pub decreases-sizes_of : goal.decreases-sizes_of
decreases-sizes_of l = l.left
