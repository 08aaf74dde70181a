use Rattle.std.proofs.Common.{arith}
use Rattle.c_machine.specs.Worth.{worth}
use Rattle.code_steps.proofs.Storing.{wrapped_by}
use Rattle.code_steps.proofs.stores.wrapped_in.Goals as goal

pub returns : goal.returns
returns c = grind (arith, wrapped_by c.kind_of.result c.args.word (worth c.args.value) c.kind_of.ensures.word c.kind_of.ensures.no_bool)
