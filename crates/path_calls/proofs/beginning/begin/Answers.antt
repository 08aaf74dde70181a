use Rattle.path_calls.proofs.BeginLemmas.{begins}
use Rattle.path_calls.proofs.beginning.begin.Goals as goal

pub returns : goal.returns
returns c =
    begins c.args.bank.now c.take_arguments.new.bank c.note.new.bank c.args.state.now c.take_arguments.new.state c.note.new.state c.args.site
    c.in_ok-arguments.arguments c.in_ok-arguments.ensures c.in_ok-note.ensures
