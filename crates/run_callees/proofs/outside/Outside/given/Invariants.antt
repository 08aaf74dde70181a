use Rattle.c_store.specs.Store.{start}
use Rattle.c_memory.specs.Memories.{initial_bytes, Holds}
use Rattle.run_callees.proofs.outside.Outside.given.Given as goal

abbrev pub invariant-bytes : goal.invariant-bytes
invariant-bytes l = record { given : Holds (initial_bytes l.world) (start l.place) l.i l.bytes }
