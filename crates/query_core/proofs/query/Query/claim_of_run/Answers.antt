use Rattle.std.proofs.Common.{◌++◌, ◌∙◌, ap, sym}
use Rattle.query_core.specs.Claims.{claimed, run_clauses}
use Rattle.query_core.proofs.ReplyLemmas.{run-claim}
use Rattle.query_core.proofs.query.Query.claim_of_run.Goals as goal
