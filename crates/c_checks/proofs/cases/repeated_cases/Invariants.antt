use Rattle.std.proofs.Common.{◌≡◌, [], None, drop}
use Rattle.c_checks.proofs.Repeats.{repeats_from}
use Rattle.c_checks.proofs.cases.repeated_cases.Given as goal

abbrev pub invariant-loop-case : goal.invariant-loop-case
invariant-loop-case l =
    repeats_from l.found l.before (drop l.case-index l.cases) ≡ repeats_from None [] l.cases
