use Rattle.c_exprs.proofs.knot.+trees.Given as goal

abbrev pub decreases-expr_of : goal.decreases-expr_of
decreases-expr_of l = l.height

abbrev pub decreases-specifier_of : goal.decreases-specifier_of
decreases-specifier_of l = l.height

abbrev pub decreases-declarator_of : goal.decreases-declarator_of
decreases-declarator_of l = l.height
