use Rattle.std.proofs.Common.{◌≡◌, drop}
use Rattle.c_means.specs.Programs.{has_word}
use Rattle.c_names.proofs.words.has_word.Given as goal

abbrev pub invariant-loop-other : goal.invariant-loop-other
invariant-loop-other l = has_word l.word (drop l.other-index l.words) ≡ has_word l.word l.words
