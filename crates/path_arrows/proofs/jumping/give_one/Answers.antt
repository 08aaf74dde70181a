use Rattle.path_arrows.proofs.Stepped.{gives_one}
use Rattle.path_arrows.proofs.jumping.give_one.Goals as goal

pub pop-requires : goal.pop-requires
pop-requires c = rw c.in_ok-next.ensures c.requires

pub returns : goal.returns
returns c =
    let popped = rw c.in_ok-next.ensures at c.in_ok-value.ensures in
    λ room. rw c.new.ensures (gives_one room _ _ c.args.state.now _ _ popped)
