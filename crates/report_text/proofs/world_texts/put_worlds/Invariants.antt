use Rattle.std.proofs.Common.{◌≡◌, ◌++◌, ◌+◌, drop}
use Rattle.report_text.specs.WorldTexts.{world_texts}
use Rattle.report_text.proofs.world_texts.put_worlds.Given as goal

abbrev pub invariant-loop-world : goal.invariant-loop-world
invariant-loop-world l = record {
  written : l.text ++ world_texts (l.number + 1) (drop l.world-index l.worlds) ≡ l.fn.text ++ world_texts 1 l.worlds;
  counted : l.number ≡ l.world-index;
}
