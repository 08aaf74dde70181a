use Rattle.std.proofs.Common.{◌≡◌, ◌+◌, ◌-◌, ℕ, length}
use Rattle.c_store.specs.Store.{object_of}
use Rattle.c_memory.specs.Memories.{byte_in, initial_bytes}
use Rattle.c_memory.proofs.cell.Cell.set.Given as goal

abbrev pub invariant-initial : goal.invariant-initial
invariant-initial l = record {
  object : l.self.object ≡ l.initial.self.object;
  bytes : (b : ℕ) → object_of b ≡ object_of l.address →
      byte_in (initial_bytes l.world) l.self b ≡ byte_in (initial_bytes l.world) l.initial.self b;
}

abbrev pub decreases-initial : goal.decreases-initial
decreases-initial l = l.offset + 1 - length l.self.bytes
