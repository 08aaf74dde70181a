use Rattle.summary_compose.proofs.arguments.+take_operands.Given as goal

abbrev pub decreases-take_operands : goal.decreases-take_operands
decreases-take_operands l = l.count
