use Rattle.c_memory.specs.Memories.{initial_bytes, Lays}
use Rattle.c_memory.proofs.cell.Cell.zero.Given as goal

abbrev pub invariant-bytes : goal.invariant-bytes
invariant-bytes l = record {
  laid : Lays (initial_bytes l.world) l.initial.self l.self l.address l.i (λ _. 0);
}
