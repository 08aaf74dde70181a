use Rattle.cdcl.proofs.Asserting.{ready-scored}
use Rattle.cdcl.proofs.Guarding.{guards-scored}
use Rattle.cdcl.proofs.search.Search.count_conflict.Goals as goal

pub returns-clause-ready : goal.returns-clause-ready
returns-clause-ready c = λ r. ready-scored c.args.self.now c.count_conflict.new.self c.count_conflict.ensures.unset r

pub returns-clause-guards : goal.returns-clause-guards
returns-clause-guards c = λ n g. guards-scored _ n c.args.self.now c.count_conflict.new.self g
