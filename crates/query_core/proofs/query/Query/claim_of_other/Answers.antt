use Rattle.query_core.proofs.OtherLemmas.{claim-made, found-within, same-found}
use Rattle.query_core.proofs.query.Query.claim_of_other.Goals as goal
