use Rattle.std.proofs.Common.{◌≡◌, ◌≤◌, ◌+◌, ◌-◌}
use Rattle.c_store.specs.Store.{spelt}
use Rattle.c_memory.specs.Memories.{byte_in, initial_bytes}
use Rattle.c_memory.proofs.cell.Cell.read.Given as goal

abbrev pub invariant-bytes : goal.invariant-bytes
invariant-bytes l = record {
  low : l.left ≤ l.width;
  value : l.value ≡ spelt (l.width - l.left) (byte_in (initial_bytes l.world) l.self) (l.address + l.left);
}

abbrev pub decreases-bytes : goal.decreases-bytes
decreases-bytes l = l.left
