use Rattle.std.proofs.Common.{◌≡◌, ◌+◌, ℕ}
use Rattle.c_store.specs.Store.{byte_of}
use Rattle.c_memory.specs.Memories.{initial_bytes, Lays}
use Rattle.c_memory.proofs.cell.Cell.write.Given as goal

abbrev pub invariant-bytes : goal.invariant-bytes
invariant-bytes l = record {
  rest : (k : ℕ) → byte_of l.rest k ≡ byte_of l.value (k + l.i);
  laid : Lays (initial_bytes l.world) l.initial.self l.self l.address l.i (byte_of l.value);
}
