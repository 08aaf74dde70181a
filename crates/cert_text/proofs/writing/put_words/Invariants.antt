use Rattle.std.proofs.Common.{◌≡◌, ◌++◌, [], cond}
use Rattle.std.specs.List.{flat_map}
use Rattle.cert_text.specs.WorldTexts.{has_line, word_line}
use Rattle.cert_text.proofs.writing.put_words.Given as goal

abbrev pub invariant-loop-place : goal.invariant-loop-place
invariant-loop-place l = l.text ++ flat_map (λ e. cond (has_line e) (word_line e) []) l.place-iterator ≡ l.fn.text ++ flat_map (λ e. cond (has_line e) (word_line e) []) l.fn.world.words
