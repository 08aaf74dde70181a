use Rattle.cdcl.proofs.Lists.{waits-two}
use Rattle.cdcl.proofs.watching.Watches.wait.Goals as goal

pub returns : goal.returns
returns c = waits-two c.args.id c.args.first c.args.second c.args.self.now c.set_pair.new.self c.push.new.self c.push-2.new.self
    c.set_pair.ensures.here c.set_pair.ensures.others c.set_pair.ensures.lists c.set_pair.ensures.sizes
    c.in_ok-push.ensures.more c.in_ok-push.ensures.given c.in_ok-push.ensures.learnt
    c.in_ok-push-2.ensures.more c.in_ok-push-2.ensures.given c.in_ok-push-2.ensures.learnt
