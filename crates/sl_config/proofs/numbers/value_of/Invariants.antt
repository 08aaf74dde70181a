use Rattle.std.proofs.Common.{◌≡◌, drop}
use Rattle.sl_config.specs.Words.{value_after}
use Rattle.sl_config.proofs.numbers.value_of.Given as goal

abbrev pub invariant-bytes : goal.invariant-bytes
invariant-bytes l = value_after l.value (drop l.byte-index l.word) ≡ value_after 0 l.word
