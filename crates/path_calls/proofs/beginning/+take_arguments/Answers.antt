use Rattle.std.proofs.Common.{◌-◌, arith}
use Rattle.path_calls.proofs.BeginLemmas.{takes_more}
use Rattle.path_calls.proofs.beginning.+take_arguments.Goals as goal

pub returns : goal.returns
returns t c =
    rw c.in_ok-push.ensures.ok
    (takes_more c.args.bank.now c.pop.new.bank c.take_arguments.new.bank c.args.state.now c.pop.new.state c.take_arguments.new.state (c.args.count - 1)
    c.args.count c.in_ok-last.last c.in_ok-all.all (omega (arith, c.if-count-eq0.false)) c.in_ok-last.ensures c.in_ok-all.ensures)
