use Rattle.std.proofs.Common.{◌≡◌, ◌++◌}
use Rattle.std.specs.Prelude.{codes}
use Rattle.std.specs.List.{flat_map}
use Rattle.report_text.specs.WorldTexts.{entry_line}
use Rattle.report_text.proofs.world_texts.put_bytes.Given as goal

abbrev pub invariant-loop-address : goal.invariant-loop-address
invariant-loop-address l = l.text ++ flat_map (entry_line (codes "b ")) l.address-iterator ≡ l.fn.text ++ flat_map (entry_line (codes "b ")) l.fn.world.bytes
