use Rattle.cdcl.proofs.Resting.{rests-more, rests-same}
use Rattle.cdcl.proofs.search.Search.add.Goals as goal

pub returns-clause-resting : goal.returns-clause-resting
returns-clause-resting c = rests-more c.args.self.now c.args.clause.now c.push.new.self c.in_ok-push.ensures.ok

pub returns-in_err-push-clause-resting : goal.returns-in_err-push-clause-resting
returns-in_err-push-clause-resting c = rests-same c.args.self.now c.push.new.self c.in_err-push.ensures.err
