use Rattle.cdcl.proofs.Resting.{rests-left}
use Rattle.cdcl.proofs.search.Search.leave_from.Goals as goal

pub returns-clause-resting : goal.returns-clause-resting
returns-clause-resting c =
    let e = c.keep_given.ensures in
    rests-left c.args.self.now c.args.index c.keep_given.new.self c.requires.ready c.requires.root c.requires.within c.requires.guards e.count e.given e.lists e.learnt
