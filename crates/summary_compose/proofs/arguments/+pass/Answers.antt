use Rattle.summary_compose.proofs.Passed.{passes_all}
use Rattle.summary_compose.proofs.arguments.+pass.Goals as goal

pub returns-in_ok-pass-in-Some-split_first : goal.returns-in_ok-pass-in-Some-split_first
returns-in_ok-pass-in-Some-split_first t c =
    passes_all _ _ _ c.in-Some-split_first.parameter.now c.in-Some.number.now c.in-Some-split_first.rest.now c.args.parameters.now
    c.in-Some.others.now c.args.numbers.now c.args.nodes.now c.pass_first.new.nodes c.pass.new.nodes c.in-Some.ensures.cases.0 c.in-Some-split_first.ensures.cases.0
    c.in_ok-pass_first-in-Some-split_first.ensures c.in_ok-pass-in-Some-split_first.ensures
