use Rattle.path_steps.proofs.Popping.{popped, popped_none}
use Rattle.path_steps.proofs.operands.pop.Goals as goal

pub returns-in-Some : goal.returns-in-Some
returns-in-Some c = popped c.args.bank.now c.args.state.now c.pop.new.self c.in-Some.number c.requires c.in-Some.ensures

pub returns-in_ok-zero-in-None : goal.returns-in_ok-zero-in-None
returns-in_ok-zero-in-None c =
    popped_none c.args.bank.now c.constant.new.bank c.args.state.now c.pop.new.self c.in_ok-zero-in-None.zero c.requires
    c.in-None.ensures.0 c.in-None.ensures.1 c.in_ok-zero-in-None.ensures
