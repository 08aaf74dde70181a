use Rattle.cdcl.proofs.Deciding.{all-true}
use Rattle.cdcl.proofs.search.Search.next.Goals as goal

pub returns-clause-none : goal.returns-clause-none
returns-clause-none g c = λ none. all-true c.args.self.now c.requires.ready c.requires.guards c.requires.whole (c.pick.ensures.none none)
