use Rattle.query_core.proofs.query.Query.claim_formula.Goals as goal
