use Rattle.std.proofs.Common.{◌≡◌, drop}
use Rattle.c_language.specs.Types.{with_both}
use Rattle.c_language.specs.Declares.{all_qualifiers}
use Rattle.c_declares.proofs.declarators.all_qualifiers.Given as goal

abbrev pub invariant-loop-qualifier : goal.invariant-loop-qualifier
invariant-loop-qualifier l =
    with_both l.all (all_qualifiers (drop l.qualifier-index l.qualifiers)) ≡ all_qualifiers l.qualifiers
