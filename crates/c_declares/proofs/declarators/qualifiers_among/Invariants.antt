use Rattle.std.proofs.Common.{◌≡◌, drop}
use Rattle.c_language.specs.Types.{with_both}
use Rattle.c_language.specs.Declares.{qualifiers_among}
use Rattle.c_declares.proofs.declarators.qualifiers_among.Given as goal

abbrev pub invariant-loop-word : goal.invariant-loop-word
invariant-loop-word l =
    with_both l.all (qualifiers_among (drop l.word-index l.words)) ≡ qualifiers_among l.words
