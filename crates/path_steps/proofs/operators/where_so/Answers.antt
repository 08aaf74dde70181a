use Rattle.path_steps.proofs.OperatorLemmas.{where_true}
use Rattle.path_steps.proofs.operators.where_so.Goals as goal

pub returns : goal.returns
returns c =
    λ store. where_true c.args.bank.now c.not.new.self c.args.at c.args.kind c.args.allowed c.in_ok-truth.truth c.args.number store
    c.requires.number c.in_ok-truth.ensures
