use Rattle.path_steps.proofs.PointerTerms.{numbered_size}
use Rattle.path_steps.proofs.operators.number_of_size.Goals as goal

pub returns : goal.returns
returns c = numbered_size c.args.bank.now c.word.new.self c.in_ok-node.node c.args.size c.in_ok-node.ensures
