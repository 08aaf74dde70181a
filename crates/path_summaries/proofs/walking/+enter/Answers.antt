use Rattle.std.proofs.Common.{arith}
use Rattle.path_summaries.proofs.Walked.{enters_more}
use Rattle.path_summaries.proofs.walking.+enter.Goals as goal

pub returns-in_ok-enter-in-Some : goal.returns-in_ok-enter-in-Some
returns-in_ok-enter-in-Some t c =
    enters_more _ _ _ c.in-Some.parameter.now c.in-Some.rest.now c.args.parameters.now c.args.number c.in_ok-next-in-Some.next c.args.types.now
    c.push.new.self c.enter.new.types c.args.numbers.now c.push-in-Some.new.self c.enter.new.numbers c.in_ok-one-in-Some.one
    c.in-Some.ensures.cases.0 (omega (arith, c.in_ok-next-in-Some.ensures)) c.in_ok-one-in-Some.ensures c.in_ok-push-in-Some.ensures.ok c.in_ok-push-in-Some-2.ensures.ok
    c.in_ok-enter-in-Some.ensures
