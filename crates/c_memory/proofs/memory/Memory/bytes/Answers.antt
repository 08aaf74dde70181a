use Rattle.c_memory.specs.Memories.{initial_bytes, byte_in, store_of, Holds}
use Rattle.c_memory.proofs.Cells.{holds_cell, holds_none, if_ok}
use Rattle.c_memory.proofs.memory.Memory.bytes.Goals as goal

pub returns-in-Some : goal.returns-in-Some
returns-in-Some c =
    if_ok (Holds (byte_in (initial_bytes c.args.world.now) c.in-Some.cell.now) c.args.address c.args.count)
    (Holds (store_of (initial_bytes c.args.world.now) c.args.self.now.cells).bytes c.args.address c.args.count) c.copy.result
    (λ bytes holds.
    holds_cell (initial_bytes c.args.world.now) c.args.self.now.cells c.in-Some.cell.now c.args.address c.args.count bytes
    (cc (c.in-Some.ensures.value)) c.requires.room holds)
    c.copy.ensures

pub returns-in-None : goal.returns-in-None
returns-in-None c =
    if_ok (Holds (byte_in (initial_bytes c.args.world.now) c.new.result) c.args.address c.args.count)
    (Holds (store_of (initial_bytes c.args.world.now) c.args.self.now.cells).bytes c.args.address c.args.count) c.copy-in-None.result
    (λ bytes holds.
    holds_none (initial_bytes c.args.world.now) c.args.self.now.cells c.new.result c.args.address c.args.count bytes
    (cc (c.in-None.ensures.value)) c.new.ensures.bytes c.requires.room holds)
    c.copy-in-None.ensures
