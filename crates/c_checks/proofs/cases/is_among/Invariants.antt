use Rattle.std.proofs.Common.{◌≡◌, drop}
use Rattle.c_means.specs.Statements.{is_among}
use Rattle.c_checks.proofs.cases.is_among.Given as goal

abbrev pub invariant-loop-case : goal.invariant-loop-case
invariant-loop-case l = is_among l.value (drop l.case-index l.cases) ≡ is_among l.value l.cases
