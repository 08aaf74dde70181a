use Rattle.c_parser.proofs.initializers.+initializer.Given as goal

abbrev pub decreases-initializer : goal.decreases-initializer
decreases-initializer l = l.height
