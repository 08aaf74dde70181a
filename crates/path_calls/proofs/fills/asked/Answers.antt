use Rattle.path_calls.proofs.FillLemmas.{asks}
use Rattle.path_calls.proofs.fills.asked.Goals as goal

pub returns : goal.returns
returns c =
    asks c.args.place c.args.bank.now c.outside_word.new.bank c.address.new.bank c.in_ok-word.word c.in_ok-node.node c.in_ok-word.ensures
    c.in_ok-node.ensures
