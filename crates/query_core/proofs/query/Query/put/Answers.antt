use Rattle.query_core.proofs.query.Query.put.Goals as goal
