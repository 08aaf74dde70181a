use Rattle.cdcl.proofs.Searching.{met-above}
use Rattle.cdcl.proofs.search.Search.settle.Goals as goal

pub returns-in-Some-clause-met : goal.returns-in-Some-clause-met
returns-in-Some-clause-met c = met-above c.propagate.new.self c.in-Some.id c.in_ok-id.ensures.ready (rw c.in-Some.is at c.in_ok-id.ensures.conflict)
