use Rattle.std.proofs.Common.{◌≡◌, ◌++◌}
use Rattle.std.specs.Prelude.{codes}
use Rattle.std.specs.List.{flat_map}
use Rattle.report_text.specs.WorldTexts.{entry_line}
use Rattle.report_text.proofs.world_texts.put_words.Given as goal

abbrev pub invariant-loop-place : goal.invariant-loop-place
invariant-loop-place l = l.text ++ flat_map (entry_line (codes "w ")) l.place-iterator ≡ l.fn.text ++ flat_map (entry_line (codes "w ")) l.fn.world.words
