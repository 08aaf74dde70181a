use Rattle.std.proofs.Common.{◌≡◌, take}
use Rattle.cnf_core.specs.Truth.{value_of}
use Rattle.bitvectors.specs.Blasts.{SetsRows}
use Rattle.bitvectors.proofs.decoding.set_words.Given as goal

abbrev pub invariant-rows : goal.invariant-rows
invariant-rows l = record {
  sets : SetsRows (value_of l.values) l.fn.world.words l.world.words (take l.index l.rows);
  same : l.world.bytes ≡ l.fn.world.bytes;
}
