use Rattle.query_core.proofs.query.Query.ask.Goals as goal
