use Rattle.std.proofs.Common.{◌-◌, arith}
use Rattle.summary_compose.proofs.Passed.{takes_none, takes_more}
use Rattle.summary_compose.proofs.arguments.+take_operands.Goals as goal

pub returns-then-count-eq0 : goal.returns-then-count-eq0
returns-then-count-eq0 c c' = rw (c'.new.ensures, c'.if-count-eq0.true) (takes_none c'.args.bank.now c'.args.state.now c'.requires)

pub returns : goal.returns
returns c c' =
    rw c'.in_ok-push.ensures.ok
    (takes_more _ _ _ c'.args.state.now _ c'.take_operands.new.state c'.in_ok-last.last c'.args.count (c'.args.count - 1) _
    (omega (arith, c'.if-count-eq0.false)) c'.in_ok-last.ensures c'.in_ok-numbers.ensures)
