use Rattle.std.proofs.Common.{slice_index}
use Rattle.c_memory.specs.Memories.{initial_bytes, Lays}
use Rattle.c_memory.proofs.cell.Cell.lay.Given as goal

abbrev pub invariant-bytes : goal.invariant-bytes
invariant-bytes l = record {
  laid : Lays (initial_bytes l.world) l.initial.self l.self l.address l.i (slice_index l.bytes);
}
