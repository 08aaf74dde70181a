use Rattle.std.proofs.Common.{◌≡◌, drop, map, string_bytes}
use Rattle.sl_config.specs.Words.{with_words, nothing_given}
use Rattle.sl_config.proofs.reading.with_words.Given as goal

abbrev pub invariant-words : goal.invariant-words
invariant-words l = with_words l.command l.given (map string_bytes (drop l.word-index l.words)) ≡ with_words l.command nothing_given (map string_bytes l.words)
