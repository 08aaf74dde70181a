use Rattle.std.proofs.Common.{◌≡◌, drop}
use Rattle.c_means.specs.Rules.{all_same, plain_all}
use Rattle.c_checks.specs.Takings.{all_plain}
use Rattle.c_checks.proofs.takings.are_plain.Given as goal

abbrev pub invariant-loop-ctype : goal.invariant-loop-ctype
invariant-loop-ctype l =
    all_same (plain_all (drop l.ctype-index l.types)) (all_plain l.rest)
    ≡ all_same (plain_all l.types) (all_plain l.wanted)
