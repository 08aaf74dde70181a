use Rattle.c_means.specs.Units.{limits_of}
use Rattle.run_formula.proofs.arguments.give.Goals as goal

pub returns : goal.returns
returns c = rw c.if-core.false (c.in_ok-binding-2.ensures (limits_of c.args.bounds.now))
