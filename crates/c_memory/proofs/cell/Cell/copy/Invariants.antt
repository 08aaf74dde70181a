use Rattle.c_memory.specs.Memories.{byte_in, initial_bytes, Holds}
use Rattle.c_memory.proofs.cell.Cell.copy.Given as goal

abbrev pub invariant-bytes : goal.invariant-bytes
invariant-bytes l = record { copied : Holds (byte_in (initial_bytes l.world) l.self) l.address l.i l.bytes }
