use Rattle.query_core.proofs.query.Query.solver_for.Goals as goal
