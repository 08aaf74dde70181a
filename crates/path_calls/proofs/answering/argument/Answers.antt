use Rattle.path_calls.proofs.BeginLemmas.{argument_found, argument_missing}
use Rattle.path_calls.proofs.answering.argument.Goals as goal

pub returns-in-Some : goal.returns-in-Some
returns-in-Some c =
    argument_found c.args.bank.now c.args.arguments.now c.args.index c.in-Some.number.now c.keeps_bank.ensures c.requires c.in-Some.ensures.value

pub returns-in_ok-zero-in-None : goal.returns-in_ok-zero-in-None
returns-in_ok-zero-in-None c =
    argument_missing c.args.bank.now c.constant.new.bank c.args.arguments.now c.args.index c.in_ok-zero-in-None.zero c.in-None.ensures.value
    c.in_ok-zero-in-None.ensures
