use Rattle.path_states.specs.States.{number_in}
use Rattle.path_numbers.proofs.Nodes.{numbered_wrapped}
use Rattle.path_numbers.proofs.conversions.wrapped.Goals as goal

pub returns : goal.returns
returns c =
    numbered_wrapped c.args.bank.now c.in_width.new.bank c.args.word c.in_ok-node.node (λ v. number_in v c.args.number) c.in_ok-node.ensures
