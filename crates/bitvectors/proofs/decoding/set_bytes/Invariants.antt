use Rattle.std.proofs.Common.{◌≡◌, take}
use Rattle.cnf_core.specs.Truth.{value_of}
use Rattle.bitvectors.specs.Blasts.{SetsRows}
use Rattle.bitvectors.proofs.decoding.set_bytes.Given as goal

abbrev pub invariant-rows : goal.invariant-rows
invariant-rows l = record {
  sets : SetsRows (value_of l.values) l.fn.world.bytes l.world.bytes (take l.index l.rows);
  same : l.world.words ≡ l.fn.world.words;
}
