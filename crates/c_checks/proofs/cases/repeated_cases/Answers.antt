use Rattle.std.proofs.Common.{refl, ◌∙◌}
use Rattle.c_checks.proofs.Loops.{ends}
use Rattle.c_checks.proofs.Repeats.{repeats_from, all_repeated}
use Rattle.c_checks.proofs.cases.repeated_cases.Goals as goal

pub returns : goal.returns
returns c =
    ends (repeats_from c.loop-case.found c.loop-case.before) c.args.cases.now c.loop-case.case-index refl
    c.loop-case-test.false c.loop-case.invariant
    ∙ all_repeated c.args.cases.now
