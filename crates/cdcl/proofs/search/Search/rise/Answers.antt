use Rattle.cdcl.proofs.Resting.{rises-search, rises-guards}
use Rattle.cdcl.proofs.search.Search.rise.Goals as goal

pub returns-clause-search : goal.returns-clause-search
returns-clause-search c = rises-search c.args.self.now c.requires.ready c.requires.root

pub returns-clause-guards : goal.returns-clause-guards
returns-clause-guards c = rises-guards c.args.self.now c.requires.whole c.requires.guards
