use Rattle.query_core.proofs.query.Query.define.Goals as goal
