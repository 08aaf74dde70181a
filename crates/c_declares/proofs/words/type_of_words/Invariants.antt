use Rattle.std.proofs.Common.{◌≡◌, drop}
use Rattle.c_language.specs.Declares.{type_by}
use Rattle.c_declares.proofs.words.type_of_words.Given as goal

abbrev pub invariant-loop-word : goal.invariant-loop-word
invariant-loop-word l = type_by l.words (drop l.word-index l.words) ≡ type_by l.words l.words
